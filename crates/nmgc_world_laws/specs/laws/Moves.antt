-- The changes that a command may make, for every command at once. P is the set of names that a mutator may get.
use Rattle.std.specs.Prelude.{◌≡◌, ◌≢◌, ◌<◌, ◌∷◌, ◌⊎◌}
use Rattle.nmgc_world_laws.specs.laws.Vocabulary.{ℕ, List, [], map, drop, length, set, refl, sym, ap, subst, ◌∙◌, length-set, Option, Some, None, inl, inr, slice_get, IsSome, IfSome, All, Contains, get_or_past, All-cons, All-nil, All-set, All-drop, All-replicate, All-get_or, cases_lt, Operand, Register, Shared, Command, Num, Mov, Get, Tag, Set, Cas, Update, Force, Push, Pop, Deref, Finalise, NextFin, Show, Same, Yield, Collect, Full, Reply, Change, SHARED_MAKER, Name, Value, Node, MutatorState, World, state_of, node_of, given, changed, field_read, tag_read, result_read, shared_name, value_of, value_for, with_state, with_register, with_new, with_node, with_finaliser, holding_given, next_name, keeping, born, object_of, read_object, change_node, change_object, change_into, step, item_has, at_some, nothing_in, owed_at, owed_of, values_owed, Names, Fields, CoversReach, HasStrongField, StillThere, strong_at, IsLater}
use Rattle.nmgc_world_spec.specs.declared.command.Command.TheVariants.{Nil, Con, Var, Arr, Rec, Thunk, Weak, Stack}
use Rattle.nmgc_world_spec.specs.declared.command.Reply.TheVariants as reply
use Rattle.nmgc_world_spec.specs.declared.change.Change.TheVariants as change
use Rattle.nmgc_world_spec.specs.declared.value.Value.TheVariants as value
use Rattle.nmgc_world_laws.specs.laws.{Barrier.IsStrongChange, Barrier.Writes, Barrier.changed_fields, Barrier.owed_fields, Barrier.field_read_has, Barrier.tag_read_has, Barrier.result_read_has, Barrier.answer_has, Barrier.stays_or_owed, Barrier.same_later, Barrier.changed_later, NodeLaws.each_state, NodeLaws.nodes_kept, NodeLaws.node_born, NodeLaws.next_is_new, NodeLaws.node_cases, NodeLaws.states_kept, NodeLaws.as_many}

-- the command neither makes nor reads a weak pointer
abbrev pub IsStrong : Command → Type 0
IsStrong (Weak dest key v finaliser) = ⊥
IsStrong (Deref dest object) = ⊥
IsStrong (Finalise dest object) = ⊥
IsStrong _ = Unit {0}

-- from one world to another the barrier is respected: all names held stay in the set, a value stays in its strong field or is
-- owed, and no object outside the set changes
pub record RespectsBarrier (P : Name → Type 0) (w v : World) (owed : List Value) : Type 0 where
  pub mutators : length v.mutators ≡ length w.mutators
  pub holds : CoversReach P v
  pub owes : All (Names P) owed
  pub stays : (name : Name) (i : ℕ) (x : Value) → HasStrongField w name i x → HasStrongField v name i x ⊎ Contains owed x
  pub later : (name : Name) (before : Node) → node_of w name ≡ Some before → StillThere v name before
  pub others : (name : Name) → (P name → ⊥) → IsSome (node_of w name) → node_of v name ≡ node_of w name

module _ (P : Name → Type 0) where
  -- two worlds with the same nodes
  pub moves_same : (w v : World) → length v.mutators ≡ length w.mutators → ((name : Name) → node_of v name ≡ node_of w name) → CoversReach P v →
      RespectsBarrier P w v []
  moves_same w v count same h = record {
    mutators = count;
    holds = h;
    owes = All-nil (Names P);
    stays = λ name i x s. inl (record { node = s.node; node_is = same name ∙ s.node_is; field = s.field });
    later = λ name before e. record { node = before; node_is = same name ∙ e; later = same_later before };
    others = λ name not there. same name;
  }

  pub stays_put : (w : World) → CoversReach P w → RespectsBarrier P w w []
  stays_put w h = moves_same w w refl (λ name. refl) h

  -- other registers and another queue
  state_moves : (w : World) (m : ℕ) (registers queue : List Value) → m < length w.mutators → CoversReach P w → All (Names P) registers →
      All (Names P) queue → RespectsBarrier P w (with_state w m (record { registers = registers; queue = queue; nodes = (state_of w m).nodes })) []
  state_moves w m registers queue lt h hr hq =
      let q : MutatorState = record { registers = registers; queue = queue; nodes = (state_of w m).nodes } in
      let same : (name : Name) → node_of (with_state w m q) name ≡ node_of w name = nodes_kept w m q lt refl in
      moves_same w (with_state w m q) (length-set w.mutators m q) same (record {
        registers = each_state w m q lt (λ (s : MutatorState). All (Names P) s.registers) hr h.registers;
        queues = each_state w m q lt (λ (s : MutatorState). All (Names P) s.queue) hq h.queues;
        fields = λ name p. subst (λ o. IfSome o (Fields (Names P))) (sym (same name)) (h.fields name p);
      })

  register_moves : (w : World) (m register : ℕ) (v : Value) → m < length w.mutators → CoversReach P w → Names P v →
      RespectsBarrier P w (with_register w m register v) []
  register_moves w m register v lt h p =
      state_moves w m (set (state_of w m).registers register v) (state_of w m).queue lt h
      (All-set (Names P) (state_of w m).registers register v p (h.registers m)) (h.queues m)

  -- a register takes the value that an answer gave
  pub keeping_moves : (w : World) (m register : ℕ) (r : Reply) → m < length w.mutators → CoversReach P w → IfSome (given r) (Names P) →
      RespectsBarrier P w (keeping w m register r) []
  keeping_moves w m register (reply.Given v) lt h p = register_moves w m register v lt h p
  keeping_moves w m register reply.Fine lt h p = stays_put w h
  keeping_moves w m register reply.Yes lt h p = stays_put w h
  keeping_moves w m register reply.No lt h p = stays_put w h
  keeping_moves w m register reply.Updated lt h p = stays_put w h
  keeping_moves w m register reply.Already lt h p = stays_put w h
  keeping_moves w m register reply.NoPointer lt h p = stays_put w h
  keeping_moves w m register reply.NoField lt h p = stays_put w h
  keeping_moves w m register reply.WrongKind lt h p = stays_put w h
  keeping_moves w m register reply.NotOwner lt h p = stays_put w h
  keeping_moves w m register reply.Fixed lt h p = stays_put w h
  keeping_moves w m register reply.Dead lt h p = stays_put w h
  keeping_moves w m register reply.Nothing lt h p = stays_put w h
  keeping_moves w m register reply.StackFull lt h p = stays_put w h
  keeping_moves w m register reply.StackEmpty lt h p = stays_put w h

  -- the first value of the queue moves into a register
  finaliser_moves : (w : World) (m register : ℕ) → m < length w.mutators → CoversReach P w →
      RespectsBarrier P w (with_state w m (with_finaliser (state_of w m) register)) []
  finaliser_moves w m register lt h = by_first (slice_get (state_of w m).queue 0) (item_has (Names P) (state_of w m).queue 0 (h.queues m))
    where
      rest : All (Names P) (drop 1 (state_of w m).queue)
      rest = All-drop (Names P) 1 (state_of w m).queue (h.queues m)

      by_first : (first : Option Value) → IfSome first (Names P) →
          RespectsBarrier P w (with_state w m (holding_given (record (state_of w m) { queue = drop 1 (state_of w m).queue }) register first)) []
      by_first None p = state_moves w m (state_of w m).registers (drop 1 (state_of w m).queue) lt h (h.registers m) rest
      by_first (Some v) p =
          state_moves w m (set (state_of w m).registers register v) (drop 1 (state_of w m).queue) lt h
          (All-set (Names P) (state_of w m).registers register v p (h.registers m)) rest

  -- a new node
  pub born_moves : (w : World) (m register : ℕ) (made : Node) → m < length w.mutators → m ≢ SHARED_MAKER → CoversReach P w →
      P (next_name (state_of w m) m) → Fields (Names P) made → RespectsBarrier P w (born w m register made).0 []
  born_moves w m register made lt own h p f =
      let q : MutatorState = with_new (state_of w m) m register made in
      let v : World = with_state w m q in
      let next : Name = next_name (state_of w m) m in
      let cases : (name : Name) → ((name ≡ next) × (node_of v name ≡ Some made)) ⊎ (node_of v name ≡ node_of w name) = node_born w m register made lt own in
      let old : (name : Name) (before : Node) → node_of w name ≡ Some before → node_of v name ≡ Some before =
      λ name before e. elim (cases name) [
        | inl c ↦ let none : node_of w name ≡ None = rw c.0 (next_is_new w m own) in absurd cc
        | inr c ↦ c ∙ e
      ] in
      record {
        mutators = length-set w.mutators m q;
        holds = record {
          registers = each_state w m q lt (λ (s : MutatorState).
              All (Names P) s.registers) (All-set (Names P) (state_of w m).registers register (value.Ref next) p (h.registers m)) h.registers;
          queues = each_state w m q lt (λ (s : MutatorState). All (Names P) s.queue) (h.queues m) h.queues;
          fields = λ name pn. elim (cases name) [
            | inl c ↦ subst (λ o. IfSome o (Fields (Names P))) (sym c.1) f
            | inr c ↦ subst (λ o. IfSome o (Fields (Names P))) (sym c) (h.fields name pn)
          ];
        };
        owes = All-nil (Names P);
        stays = λ name i x s. inl (record { node = s.node; node_is = old name s.node s.node_is; field = s.field });
        later = λ name before e. record { node = before; node_is = old name before e; later = same_later before };
        others = λ name not there. elim (cases name) [
          | inl c ↦ absurd (not (subst P (sym c.0) p))
          | inr c ↦ c
        ];
      }

  -- a name of the set gets another node, whose strong fields refer only to names of the set
  pub made_moves : (w : World) (name : Name) (found made : Node) (owed : List Value) → node_of w name ≡ Some found → Fields (Names P) made →
      All (Names P) owed → ((i : ℕ) (x : Value) → strong_at found i ≡ Some x → (strong_at made i ≡ Some x) ⊎ Contains owed x) → IsLater found made →
      CoversReach P w → P name → RespectsBarrier P w (with_node w name made) owed
  made_moves w name found made owed there fields owes stays later h p =
      let v : World = with_node w name made in
      let cases : (n : Name) → ((n ≡ name) × (node_of v n ≡ Some made)) ⊎ ((n ≡ name → ⊥) × (node_of v n ≡ node_of w n)) = node_cases w name found made there in
      record {
        mutators = as_many w name found made there;
        holds = record {
          registers = states_kept w name found made there (λ (s : MutatorState). All (Names P) s.registers) (λ s nodes r. r) h.registers;
          queues = states_kept w name found made there (λ (s : MutatorState). All (Names P) s.queue) (λ s nodes r. r) h.queues;
          fields = λ n pn. elim (cases n) [
            | inl e ↦ subst (λ o. IfSome o (Fields (Names P))) (sym e.1) fields
            | inr e ↦ subst (λ o. IfSome o (Fields (Names P))) (sym e.1) (h.fields n pn)
          ];
        };
        owes = owes;
        stays = λ n i x s. elim (cases n) [
          | inl e ↦
              let same : Some found ≡ Some s.node = sym there ∙ ap (λ a. node_of w a) (sym e.0) ∙ s.node_is in
              let is : found ≡ s.node = cc in
              elim (stays i x (subst (λ a. strong_at a i ≡ Some x) (sym is) s.field)) [
                | inl k ↦ inl (record { node = made; node_is = e.1; field = k })
                | inr k ↦ inr k
              ]
          | inr e ↦ inl (record { node = s.node; node_is = e.1 ∙ s.node_is; field = s.field })
        ];
        later = λ n before is. elim (cases n) [
          | inl e ↦
              let same : Some found ≡ Some before = sym there ∙ ap (λ a. node_of w a) (sym e.0) ∙ is in
              let old : found ≡ before = cc in
              record { node = made; node_is = e.1; later = subst (λ a. IsLater a made) old later }
          | inr e ↦ record { node = before; node_is = e.1 ∙ is; later = same_later before }
        ];
        others = λ n not is. elim (cases n) [
          | inl e ↦ absurd (not (subst P (sym e.0) p))
          | inr e ↦ e.1
        ];
      }

  -- the node of a name of the set changes
  node_moves : (w : World) (name : Name) (found : Node) (c : Change) → node_of w name ≡ Some found → IsStrongChange c → Writes (Names P) c →
      CoversReach P w → P name → RespectsBarrier P w (with_node w name (changed c name.maker found).0) (owed_at c name (Some found))
  node_moves w name found c there strong writes h p =
      let mine : Fields (Names P) found = at_some (node_of w name) found (Fields (Names P)) there (h.fields name p) in
      made_moves w name found (changed c name.maker found).0 (owed_at c name (Some found)) there
      (changed_fields (Names P) c name.maker found strong writes mine)
      (owed_fields (Names P) c name found strong mine)
      (λ i x s. stays_or_owed c name found i x strong s)
      (changed_later c name.maker found strong) h p

  change_node_moves : (w : World) (name : Name) (o : Option Node) (c : Change) → node_of w name ≡ o → IsStrongChange c → Writes (Names P) c →
      CoversReach P w → P name → RespectsBarrier P w (change_node w name o c).0 (owed_at c name o)
  change_node_moves w name None c there strong writes h p = stays_put w h
  change_node_moves w name (Some found) c there strong writes h p = node_moves w name found c there strong writes h p

  -- the answer of a change of an object refers to a name of the set
  change_node_gives : (w : World) (name : Name) (o : Option Node) (c : Change) → node_of w name ≡ o → IsStrongChange c → CoversReach P w → P name →
      IfSome (given (change_node w name o c).1) (Names P)
  change_node_gives w name None c there strong h p = tt
  change_node_gives w name (Some found) c there strong h p =
      answer_has (Names P) c name.maker found strong (at_some (node_of w name) found (Fields (Names P)) there (h.fields name p))

  change_moves : (w : World) (v : Value) (c : Change) → IsStrongChange c → Writes (Names P) c → CoversReach P w → Names P v →
      RespectsBarrier P w (change_object w v c).0 (owed_of w v c)
  change_moves w value.Nil c strong writes h p = stays_put w h
  change_moves w (value.Number n) c strong writes h p = stays_put w h
  change_moves w (value.Ref name) c strong writes h p = change_node_moves w name (node_of w name) c refl strong writes h p

  change_gives : (w : World) (v : Value) (c : Change) → IsStrongChange c → CoversReach P w → Names P v → IfSome (given (change_object w v c).1) (Names P)
  change_gives w value.Nil c strong h p = tt
  change_gives w (value.Number n) c strong h p = tt
  change_gives w (value.Ref name) c strong h p = change_node_gives w name (node_of w name) c refl strong h p

  -- a move, and then a second one that changes no node
  pub then_same : (u v w : World) (owed : List Value) → RespectsBarrier P u v owed → RespectsBarrier P v w [] → RespectsBarrier P u w owed
  then_same u v w owed a b = record {
    mutators = b.mutators ∙ a.mutators;
    holds = b.holds;
    owes = a.owes;
    stays = λ name i x s. elim (a.stays name i x s) [
      | inl t ↦ elim (b.stays name i x t) [ inl k ↦ inl k | inr k ↦ absurd (nothing_in x k) ]
      | inr k ↦ inr k
    ];
    later = λ name before e.
        let t : StillThere v name before = a.later name before e in
        let r : StillThere w name t.node = b.later name t.node t.node_is in
        record { node = r.node; node_is = r.node_is; later = record { free = r.later.free ∙ t.later.free; result = λ k. r.later.result (t.later.result k) } };
    others = λ name not is. let e : node_of v name ≡ node_of u name = a.others name not is in b.others name not (subst (λ o. IsSome o) (sym e) is) ∙ e;
  }

  -- a change whose answer goes into a register
  pub change_into_moves : (w : World) (m dest : ℕ) (v : Value) (c : Change) → m < length w.mutators → IsStrongChange c → Writes (Names P) c →
      CoversReach P w → Names P v → RespectsBarrier P w (change_into m dest (change_object w v c)).0 (owed_of w v c)
  change_into_moves w m dest v c lt strong writes h p =
      let a : RespectsBarrier P w (change_object w v c).0 (owed_of w v c) = change_moves w v c strong writes h p in
      then_same w (change_object w v c).0 (change_into m dest (change_object w v c)).0 (owed_of w v c) a
      (keeping_moves (change_object w v c).0 m dest (change_object w v c).1 (subst (λ n. m < n) (sym a.mutators) lt) a.holds (change_gives w v c strong h p))

  -- the answer of a read refers to a name of the set
  pub reading_gives : (w : World) (v : Value) (read : Node → Reply) →
      ((node : Node) → Fields (Names P) node → IfSome (given (read node)) (Names P)) → CoversReach P w → Names P v →
      IfSome (given (read_object (object_of w v) read)) (Names P)
  reading_gives w value.Nil read f h p = tt
  reading_gives w (value.Number n) read f h p = tt
  reading_gives w (value.Ref name) read f h p = by_node (node_of w name) (h.fields name p)
    where
      by_node : (o : Option Node) → IfSome o (Fields (Names P)) → IfSome (given (read_object o read)) (Names P)
      by_node None k = tt
      by_node (Some node) k = f node k

  -- an operand's value refers to a name of the set
  pub operand_has : (registers : List Value) (o : Operand) → P shared_name → All (Names P) registers → Names P (value_of registers o)
  operand_has registers (Register r) g h = elim (cases_lt r (length registers)) [
    | inl lt ↦ All-get_or (Names P) registers r value.Nil lt h
    | inr le ↦ rw (get_or_past registers r value.Nil le) tt
  ]
  operand_has registers Shared g h = g

  pub operands_have : (registers : List Value) (os : List Operand) → P shared_name → All (Names P) registers → All (Names P) (map (value_of registers) os)
  operands_have registers [] g h = All-nil (Names P)
  operands_have registers (o ∷ os) g h =
      All-cons (Names P) (value_of registers o) (map (value_of registers) os) (operand_has registers o g h) (operands_have registers os g h)

  -- every command except those on weak pointers
  pub step_moves : (w : World) (m : ℕ) (c : Command) → IsStrong c → m < length w.mutators → m ≢ SHARED_MAKER → P shared_name →
      P (next_name (state_of w m) m) → CoversReach P w → RespectsBarrier P w (step w m c).0 (values_owed w m c)
  step_moves w m (Num dest number) s lt own g p h = register_moves w m dest (value.Number number) lt h tt
  step_moves w m (Nil dest) s lt own g p h = register_moves w m dest value.Nil lt h tt
  step_moves w m (Mov dest v) s lt own g p h = register_moves w m dest (value_for w m v) lt h (operand_has (state_of w m).registers v g (h.registers m))
  step_moves w m (Con dest tag fields) s lt own g p h = born_moves w m dest _ lt own h p (operands_have (state_of w m).registers fields g (h.registers m))
  step_moves w m (Var dest v) s lt own g p h =
      born_moves w m dest _ lt own h p (All-cons (Names P) (value_for w m v) [] (operand_has (state_of w m).registers v g (h.registers m)) (All-nil (Names P)))
  step_moves w m (Arr dest count v) s lt own g p h =
      born_moves w m dest _ lt own h p (All-replicate (Names P) count (value_for w m v) (operand_has (state_of w m).registers v g (h.registers m)))
  step_moves w m (Rec dest fields) s lt own g p h = born_moves w m dest _ lt own h p (operands_have (state_of w m).registers fields g (h.registers m))
  step_moves w m (Thunk dest free) s lt own g p h = born_moves w m dest _ lt own h p (operands_have (state_of w m).registers free g (h.registers m))
  step_moves w m (Weak dest key v finaliser) s lt own g p h = absurd s
  step_moves w m (Stack dest size) s lt own g p h = born_moves w m dest _ lt own h p (All-nil (Names P))
  step_moves w m (Get dest object index) s lt own g p h = keeping_moves w m dest _ lt h (reading_gives w (value_for w m object) (λ node.
      field_read node index) (λ node f. field_read_has (Names P) node index f) h (operand_has (state_of w m).registers object g (h.registers m)))
  step_moves w m (Tag dest object) s lt own g p h = keeping_moves w m dest _ lt h (reading_gives w (value_for w m object) tag_read (λ node f.
      tag_read_has (Names P) node (λ n. tt)) h (operand_has (state_of w m).registers object g (h.registers m)))
  step_moves w m (Set object index v) s lt own g p h =
      change_moves w (value_for w m object) (change.Set index (value_for w m v)) tt (operand_has (state_of w m).registers v g (h.registers m)) h
      (operand_has (state_of w m).registers object g (h.registers m))
  step_moves w m (Cas object index expected v) s lt own g p h =
      change_moves w (value_for w m object) (change.Exchange index (value_for w m expected) (value_for w m v)) tt
      (operand_has (state_of w m).registers v g (h.registers m)) h (operand_has (state_of w m).registers object g (h.registers m))
  step_moves w m (Update object v) s lt own g p h =
      change_moves w (value_for w m object) (change.Update (value_for w m v)) tt (operand_has (state_of w m).registers v g (h.registers m)) h
      (operand_has (state_of w m).registers object g (h.registers m))
  step_moves w m (Force dest object) s lt own g p h = keeping_moves w m dest _ lt h (reading_gives w (value_for w m object) result_read (λ node f.
      result_read_has (Names P) node f) h (operand_has (state_of w m).registers object g (h.registers m)))
  step_moves w m (Push object v) s lt own g p h =
      change_moves w (value_for w m object) (change.Push m (value_for w m v)) tt (operand_has (state_of w m).registers v g (h.registers m)) h
      (operand_has (state_of w m).registers object g (h.registers m))
  step_moves w m (Pop dest object) s lt own g p h =
      change_into_moves w m dest (value_for w m object) (change.Pop m) lt tt tt h (operand_has (state_of w m).registers object g (h.registers m))
  step_moves w m (Deref dest object) s lt own g p h = absurd s
  step_moves w m (Finalise dest object) s lt own g p h = absurd s
  step_moves w m (NextFin dest) s lt own g p h = finaliser_moves w m dest lt h
  step_moves w m (Show v) s lt own g p h = stays_put w h
  step_moves w m (Same left right) s lt own g p h = stays_put w h
  step_moves w m Yield s lt own g p h = stays_put w h
  step_moves w m Collect s lt own g p h = stays_put w h
  step_moves w m Full s lt own g p h = stays_put w h
