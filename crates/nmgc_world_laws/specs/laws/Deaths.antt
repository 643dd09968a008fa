-- The world after the death of weak pointers, by `finalise` or by a closing.
use Rattle.std.specs.Prelude.{◌≡◌, ◌≢◌, ◌<◌, ◌⊎◌, ◌∷◌, ◌++◌}
use Rattle.nmgc_world_laws.specs.laws.Vocabulary.{ℕ, List, [], length, refl, sym, ap, subst, ◌∙◌, Option, Some, None, inl, inr, length-set, IsSome, IfSome, Contains, cases_eq, append-nil, append_assoc, Contains-append_cases, Command, Reply, SHARED_MAKER, Name, Value, Parts, Node, Con, Var, Arr, Thunk, Weak, Stack, MutatorState, World, IsWorld, state_of, serial_of, node_of, value_for, with_state, with_nth, keeping, object_of, change_node, change_object, step, Row, replayed, finalised, finalised_by, finalised_in, IsAlive, IsAliveWeak, queued, closed, closed_by, contains_cases, slice_get-set_same, nothing_in, name_cases, CanReplay, ClosingKeepsWorld, QueueGrows, ClosingLeavesHands}
use Rattle.nmgc_world_spec.specs.declared.command.Command.TheVariants as command
use Rattle.nmgc_world_spec.specs.declared.command.Reply.TheVariants as reply
use Rattle.nmgc_world_spec.specs.declared.change.Change.TheVariants as change
use Rattle.nmgc_world_spec.specs.declared.value.Value.TheVariants as value
use Rattle.nmgc_world_laws.specs.laws.{Closings.with_dead, Closings.closed_state, Closings.closed_other, Closings.dead_keeps, Closings.queued_nodes, Growth.step_grows, Weaks.weak_within, Weaks.weak_maker, Worlds.not_shared, NodeLaws.state_same, NodeLaws.state_other, NodeLaws.node_same, NodeLaws.nodes_kept, NodeLaws.next_is_new, NodeLaws.node_cases, NodeLaws.as_many, Alive.AliveOk, Alive.WeaksOk, Alive.step_weaks, WorldSteps.step_keeps_world, HeldSteps.alive_ok, HeldSteps.alive_has, HeldSteps.absent, HeldSteps.some_of}

not_alive : (o : Option Node) (parts : Parts) → o ≡ Some (Weak None) → o ≡ Some (Weak (Some parts)) → ⊥
not_alive o parts e f = let g : Some (Weak None) ≡ Some (Weak (Some parts)) = sym e ∙ f in cc

pub keeping_nodes : (w : World) (m dest : ℕ) (r : Reply) → m < length w.mutators → (n : Name) → node_of (keeping w m dest r) n ≡ node_of w n
keeping_nodes w m dest (reply.Given v) lt n = nodes_kept w m _ lt refl n
keeping_nodes w m dest reply.Fine lt n = refl
keeping_nodes w m dest reply.Yes lt n = refl
keeping_nodes w m dest reply.No lt n = refl
keeping_nodes w m dest reply.Updated lt n = refl
keeping_nodes w m dest reply.Already lt n = refl
keeping_nodes w m dest reply.NoPointer lt n = refl
keeping_nodes w m dest reply.NoField lt n = refl
keeping_nodes w m dest reply.WrongKind lt n = refl
keeping_nodes w m dest reply.NotOwner lt n = refl
keeping_nodes w m dest reply.Fixed lt n = refl
keeping_nodes w m dest reply.Dead lt n = refl
keeping_nodes w m dest reply.Nothing lt n = refl
keeping_nodes w m dest reply.StackFull lt n = refl
keeping_nodes w m dest reply.StackEmpty lt n = refl

-- the object that is finalised dies
object_dies : (w : World) (v : Value) (n : Name) → Contains (finalised_in v (object_of w v)) n →
    (node_of (change_object w v change.Finalise).0 n ≡ Some (Weak None)) × (length (change_object w v change.Finalise).0.mutators ≡ length w.mutators)
object_dies w value.Nil n c = absurd (nothing_in n c)
object_dies w (value.Number k) n c = absurd (nothing_in n c)
object_dies w (value.Ref own) n c = by_node (node_of w own) refl c
  where
    by_node : (o : Option Node) → node_of w own ≡ o → Contains (finalised_in (value.Ref own) o) n →
        (node_of (change_node w own o change.Finalise).0 n ≡ Some (Weak None)) × (length (change_node w own o change.Finalise).0.mutators ≡ length w.mutators)
    by_node None e d = absurd (nothing_in n d)
    by_node (Some (Con tag values)) e d = absurd (nothing_in n d)
    by_node (Some (Var x)) e d = absurd (nothing_in n d)
    by_node (Some (Arr values)) e d = absurd (nothing_in n d)
    by_node (Some (Thunk free result)) e d = absurd (nothing_in n d)
    by_node (Some (Weak None)) e d = absurd (nothing_in n d)
    by_node (Some (Weak (Some parts))) e d = elim (contains_cases own [] n d) [
      | inl same ↦ elim (node_cases w own (Weak (Some parts)) (Weak None) e n) [
        | inl r ↦ (r.1, as_many w own (Weak (Some parts)) (Weak None) e)
        | inr r ↦ absurd (r.0 (sym same))
      ]
      | inr none ↦ absurd (nothing_in n none)
    ]
    by_node (Some (Stack size values)) e d = absurd (nothing_in n d)

step_dies : (w : World) (m : ℕ) (c : Command) → m < length w.mutators → (n : Name) → Contains (finalised_by w m c) n →
    node_of (step w m c).0 n ≡ Some (Weak None)
step_dies w m (command.Finalise dest object) lt n c =
    let d = object_dies w (value_for w m object) n c in
    keeping_nodes (change_object w (value_for w m object) change.Finalise).0 m dest (change_object w (value_for w m object) change.Finalise).1
    (subst (λ (k : ℕ). m < k) (sym d.1) lt) n ∙ d.0
step_dies w m _ lt n c = absurd (nothing_in n c)

-- the name isn't this weak pointer
abbrev Other : Name → Name → Parts → Type 0
Other n k parts = k ≡ n → ⊥

stays_dead : (w : World) (rows : List Row) → IsWorld w → CanReplay w rows → (n : Name) → IsSome (node_of w n) → WeaksOk (Other n) w →
    WeaksOk (Other n) (replayed w rows)
stays_dead w [] is can n there h = h
stays_dead w (row ∷ rows) is can n there h =
    let own : row.mutator ≢ SHARED_MAKER = not_shared w row.mutator is can.0.mutator in
    stays_dead (step w row.mutator row.command).0 rows (step_keeps_world w row.mutator row.command is can.0) can.1 n
    ((step_grows w row.mutator row.command can.0.mutator).names n there)
    (step_weaks (Other n) w row.mutator row.command can.0.mutator own (λ key v finaliser same.
    absent (node_of w n) (ap (λ (k : Name). node_of w k) (sym same) ∙ next_is_new w row.mutator own) there) h)

-- after rows no finalised weak pointer is alive
pub finalised_dead : (w : World) (rows : List Row) → IsWorld w → CanReplay w rows → (n : Name) (parts : Parts) → IsAlive (replayed w rows) n parts →
    Contains (finalised w rows) n → ⊥
finalised_dead w [] is can n parts alive c = nothing_in n c
finalised_dead w (row ∷ rows) is can n parts alive c =
    let v : World = (step w row.mutator row.command).0 in
    let world : IsWorld v = step_keeps_world w row.mutator row.command is can.0 in
    elim (Contains-append_cases (finalised_by w row.mutator row.command) (finalised v rows) n c) [
      | inl here ↦
          let dead : node_of v n ≡ Some (Weak None) = step_dies w row.mutator row.command can.0.mutator n here in
          let there : IsSome (node_of v n) = some_of (node_of v n) (Weak None) dead in
          let none : WeaksOk (Other n) v = alive_ok (Other n) v (λ k p e same.
          not_alive (node_of v n) p dead (ap (λ (j : Name). node_of v j) (sym same) ∙ e)) in
          alive_has (Other n) (replayed v rows) (stays_dead v rows world can.1 n there none) n parts alive refl
      | inr later ↦ finalised_dead v rows world can.1 n parts alive later
    ]

-- the node of a name is as before, or the name is the weak pointer, which was alive and is dead
abbrev pub NodeLeft : World → World → Name → Name → Type 0
NodeLeft w v d n = (node_of v n ≡ node_of w n) ⊎ ((n ≡ d) × (node_of v n ≡ Some (Weak None)) × IsAliveWeak w d)

-- a queue is as before, or the finaliser has joined it
abbrev pub QueueLeft : World → Name → List Value → List Value → Type 0
QueueLeft w d old new = (new ≡ old) ⊎ ((parts : Parts) × IsAlive w d parts × ((new ≡ old) ⊎ (new ≡ old ++ parts.finaliser ∷ [])))

pub record Dies (w v : World) (d : Name) : Type 0 where
  pub world : IsWorld v
  pub nodes : (n : Name) → NodeLeft w v d n
  pub dead : (parts : Parts) → IsAlive v d parts → ⊥
  pub registers : (k : ℕ) → (state_of v k).registers ≡ (state_of w k).registers
  pub queues : (k : ℕ) → QueueLeft w d (state_of w k).queue (state_of v k).queue
  pub mutators : length v.mutators ≡ length w.mutators
  pub serials : (k : ℕ) → serial_of v k ≡ serial_of w k

-- the case of a name that names no weak pointer, or a dead weak pointer
was_dead : (w : World) → IsWorld w → (d : Name) → ((parts : Parts) → IsAlive w d parts → ⊥) → Dies w w d
was_dead w is d not = record {
  world = is;
  nodes = λ n. inl refl;
  dead = not;
  registers = λ k. refl;
  queues = λ k. inl refl;
  mutators = refl;
  serials = λ k. refl;
}

queued_registers : (state : MutatorState) (v : Value) → (queued state v).registers ≡ state.registers
queued_registers state value.Nil = refl
queued_registers state (value.Number n) = refl
queued_registers state (value.Ref name) = refl

queued_queue : (state : MutatorState) (v : Value) → ((queued state v).queue ≡ state.queue) ⊎ ((queued state v).queue ≡ state.queue ++ v ∷ [])
queued_queue state value.Nil = inl refl
queued_queue state (value.Number n) = inr refl
queued_queue state (value.Ref name) = inr refl

-- the case of a weak pointer that is alive
dies_alive : (w : World) → IsWorld w → (d : Name) (parts : Parts) → IsAlive w d parts → Dies w (closed_by w d (Some (Weak (Some parts)))) d
dies_alive w is d parts alive =
    let lt : d.maker < length w.mutators = weak_maker w is d (parts, alive) in
    let ne : d.maker ≢ SHARED_MAKER = not_shared w d.maker is lt in
    let state : MutatorState = with_nth (state_of w d.maker) d.serial (Weak None) in
    let q : MutatorState = with_dead (state_of w d.maker) d.serial parts.finaliser in
    let v : World = with_state w d.maker q in
    let is_v : closed_by w d (Some (Weak (Some parts))) ≡ v = closed_state w d parts lt ne in
    let at : node_of v d ≡ Some (Weak None) = cc (node_same w d.maker q lt ne d refl, queued_nodes state parts.finaliser, slice_get-set_same (state_of w d.maker).nodes d.serial (Weak None) (weak_within w is d (parts, alive))) in
    let dies : Dies w v d = record {
      world = dead_keeps w is d (parts, alive);
      nodes = λ n. elim (name_cases n d) [
        | inl same ↦ inr (same, ap (λ (k : Name). node_of v k) same ∙ at, (parts, alive))
        | inr other ↦ inl (sym (ap (λ (u : World). node_of u n) is_v) ∙ closed_other w d parts lt ne n other)
      ];
      dead = λ p e. not_alive (node_of v d) p at e;
      registers = λ k. elim (cases_eq k d.maker) [
        | inl e ↦ cc (e, state_same w d.maker q lt, queued_registers state parts.finaliser)
        | inr other ↦ ap (λ (s : MutatorState). s.registers) (state_other w d.maker q lt k other)
      ];
      queues = λ k. elim (cases_eq k d.maker) [
        | inl e ↦
            let new : (state_of v k).queue ≡ q.queue = cc (e, state_same w d.maker q lt) in
            let old : state.queue ≡ (state_of w k).queue = ap (λ (j : ℕ). (state_of w j).queue) (sym e) in
            inr (
              parts,
              alive,
              elim (queued_queue state parts.finaliser) [
                | inl r ↦ inl (new ∙ r ∙ old)
                | inr r ↦ inr (new ∙ r ∙ ap (λ (values : List Value). values ++ parts.finaliser ∷ []) old)
              ],
            )
        | inr other ↦ inl (ap (λ (s : MutatorState). s.queue) (state_other w d.maker q lt k other))
      ];
      mutators = length-set w.mutators d.maker q;
      serials = λ k. elim (cases_eq k d.maker) [
        | inl e ↦ cc (e, state_same w d.maker q lt, queued_nodes state parts.finaliser, length-set (state_of w d.maker).nodes d.serial (Weak None))
        | inr other ↦ ap (λ (s : MutatorState). length s.nodes) (state_other w d.maker q lt k other)
      ];
    } in
    let P : World → Type 0 = λ u. Dies w u d in
    subst P (sym is_v) dies

pub dies_by : (w : World) → IsWorld w → (d : Name) → Dies w (closed_by w d (node_of w d)) d
dies_by w is d = by_node (node_of w d) refl
  where
    was : (node : Node) → node_of w d ≡ Some node → ((parts : Parts) → node ≡ Weak (Some parts) → ⊥) → Dies w w d
    was node e not = was_dead w is d (λ parts alive. not parts (let both : Some node ≡ Some (Weak (Some parts)) = sym e ∙ alive in cc))

    by_node : (o : Option Node) → node_of w d ≡ o → Dies w (closed_by w d o) d
    by_node None e = was_dead w is d (λ parts alive. let both : None ≡ Some (Weak (Some parts)) = sym e ∙ alive in cc)
    by_node (Some (Con tag values)) e = was (Con tag values) e (λ parts f. cc)
    by_node (Some (Var x)) e = was (Var x) e (λ parts f. cc)
    by_node (Some (Arr values)) e = was (Arr values) e (λ parts f. cc)
    by_node (Some (Thunk free result)) e = was (Thunk free result) e (λ parts f. cc)
    by_node (Some (Weak None)) e = was (Weak None) e (λ parts f. cc)
    by_node (Some (Weak (Some parts))) e = dies_alive w is d parts e
    by_node (Some (Stack size values)) e = was (Stack size values) e (λ parts f. cc)

-- a weak pointer that is alive after a death was alive before
pub dies_weaks : (R : Name → Parts → Type 0) (w v : World) (d : Name) → Dies w v d → WeaksOk R w → WeaksOk R v
dies_weaks R w v d dies h n = elim (dies.nodes n) [
  | inl same ↦ subst (λ (o : Option Node). IfSome o (AliveOk R n)) (sym same) (h n)
  | inr gone ↦ subst (λ (o : Option Node). IfSome o (AliveOk R n)) (sym gone.1) tt
]

pub closed_weaks : (R : Name → Parts → Type 0) (w : World) (dead : List Name) → IsWorld w → WeaksOk R w → WeaksOk R (closed w dead)
closed_weaks R w [] is h = h
closed_weaks R w (d ∷ dead) is h = let dies = dies_by w is d in
    closed_weaks R (closed_by w d (node_of w d)) dead dies.world (dies_weaks R w (closed_by w d (node_of w d)) d dies h)

-- a weak pointer that died is dead in the end
pub closed_dead : (w : World) (dead : List Name) → IsWorld w → (n : Name) → Contains dead n → (parts : Parts) → IsAlive (closed w dead) n parts → ⊥
closed_dead w [] is n c parts alive = nothing_in n c
closed_dead w (d ∷ dead) is n c parts alive =
    let v : World = closed_by w d (node_of w d) in
    let dies = dies_by w is d in
    elim (contains_cases d dead n c) [
      | inl same ↦
          let none : WeaksOk (Other d) v = alive_ok (Other d) v (λ k p e is_d. dies.dead p (ap (λ (j : Name). node_of v j) (sym is_d) ∙ e)) in
          alive_has (Other d) (closed v dead) (closed_weaks (Other d) v dead dies.world none) n parts alive (sym same)
      | inr later ↦ closed_dead v dead dies.world n later parts alive
    ]

-- a closing leaves a world with the same names, the same number of mutators and the same serials
pub closed_world : ClosingKeepsWorld
closed_world w [] is = is
closed_world w (d ∷ dead) is = closed_world (closed_by w d (node_of w d)) dead (dies_by w is d).world

pub death_names : (w v : World) (d n : Name) → Dies w v d → IsSome (node_of w n) → IsSome (node_of v n)
death_names w v d n dies there = elim (dies.nodes n) [
  | inl same ↦ subst (λ (o : Option Node). IsSome o) (sym same) there
  | inr gone ↦ some_of (node_of v n) (Weak None) gone.1
]

pub closed_names : (w : World) (dead : List Name) → IsWorld w → (n : Name) → IsSome (node_of w n) → IsSome (node_of (closed w dead) n)
closed_names w [] is n there = there
closed_names w (d ∷ dead) is n there = let dies = dies_by w is d in
    closed_names (closed_by w d (node_of w d)) dead dies.world n (death_names w (closed_by w d (node_of w d)) d n dies there)

pub closed_mutators : (w : World) (dead : List Name) → IsWorld w → length (closed w dead).mutators ≡ length w.mutators
closed_mutators w [] is = refl
closed_mutators w (d ∷ dead) is = let dies = dies_by w is d in closed_mutators (closed_by w d (node_of w d)) dead dies.world ∙ dies.mutators

pub closed_serials : (w : World) (dead : List Name) → IsWorld w → (m : ℕ) → serial_of (closed w dead) m ≡ serial_of w m
closed_serials w [] is m = refl
closed_serials w (d ∷ dead) is m = let dies = dies_by w is d in closed_serials (closed_by w d (node_of w d)) dead dies.world m ∙ dies.serials m

-- each mutator has the same in hand, except that finalisers join its queue
same_queue : (s t : MutatorState) → t.registers ≡ s.registers → length t.nodes ≡ length s.nodes → t.queue ≡ s.queue → QueueGrows s t
same_queue s t registers made queue = record { registers = registers; joined = []; queue = queue ∙ sym (append-nil s.queue); made = made }

death_hands : (w v : World) (d : Name) → Dies w v d → (m : ℕ) → QueueGrows (state_of w m) (state_of v m)
death_hands w v d dies m = elim (dies.queues m) [
  | inl same ↦ same_queue (state_of w m) (state_of v m) (dies.registers m) (dies.serials m) same
  | inr more ↦ elim more.2 [
    | inl same ↦ same_queue (state_of w m) (state_of v m) (dies.registers m) (dies.serials m) same
    | inr joins ↦ record { registers = dies.registers m; joined = more.0.finaliser ∷ []; queue = joins; made = dies.serials m }
  ]
]

then_grows : (r s t : MutatorState) → QueueGrows r s → QueueGrows s t → QueueGrows r t
then_grows r s t a b = record {
  registers = b.registers ∙ a.registers;
  joined = a.joined ++ b.joined;
  queue = b.queue ∙ ap (λ (values : List Value). values ++ b.joined) a.queue ∙ append_assoc r.queue a.joined b.joined;
  made = b.made ∙ a.made;
}

pub closing_leaves_hands : ClosingLeavesHands
closing_leaves_hands w [] is m = same_queue (state_of w m) (state_of w m) refl refl refl
closing_leaves_hands w (d ∷ dead) is m =
    let dies = dies_by w is d in
    then_grows (state_of w m) (state_of (closed_by w d (node_of w d)) m) (state_of (closed w (d ∷
    dead)) m) (death_hands w (closed_by w d (node_of w d)) d dies m) (closing_leaves_hands (closed_by w d (node_of w d)) dead dies.world m)
