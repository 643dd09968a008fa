-- A command leaves every name in the map, and lets no serial fall.
use Rattle.std.specs.Prelude.{◌≡◌, ◌<◌, ◌≤◌, ◌+◌, ◌∷◌, ◌++◌}
use Rattle.nmgc_world_laws.specs.laws.Vocabulary.{◌∙◌, ℕ, [], length, refl, sym, ap, subst, arith, inl, inr, length-append, Option, Some, None, Result, Ok, Err, IsSome, IfOk, OnErr, get_or-set_same, get_or-set_other, set_past, cases_lt, eqb_tells, NoMemory, Command, Num, Mov, Get, Tag, Set, Cas, Update, Force, Push, Pop, Deref, Finalise, NextFin, Show, Same, Yield, Collect, Full, Reply, Change, SHARED_MAKER, Name, Value, Node, MutatorState, World, state_of, node_of, serial_of, no_mutator, Grows, changed, with_state, with_new, with_nth, with_node, holding_given, keeping, born, change_node, change_object, change_asked, change_into, value_for, step, is_some_get, get_is_some, length-set}
use Rattle.nmgc_world_spec.specs.declared.command.Command.TheVariants.{Nil, Con, Var, Arr, Rec, Thunk, Weak, Stack}
use Rattle.nmgc_world_spec.specs.declared.command.Reply.TheVariants as reply
use Rattle.nmgc_world_spec.specs.declared.change.Change.TheVariants as change
use Rattle.nmgc_world_spec.specs.declared.value.Value.TheVariants as value

-- the same number of mutators, each with the same number of objects
record SameCounts (w v : World) : Type 0 where
  mutators : length v.mutators ≡ length w.mutators
  serials : (k : ℕ) → serial_of v k ≡ serial_of w k

same_counts : (w : World) → SameCounts w w
same_counts w = record { mutators = refl; serials = λ k. refl }

same_then : (u v w : World) → SameCounts u v → SameCounts v w → SameCounts u w
same_then u v w p q = record { mutators = q.mutators ∙ p.mutators; serials = λ k. q.serials k ∙ p.serials k }

-- another state of a mutator, with the same number of objects
state_same : (w : World) (m : ℕ) (q : MutatorState) → length q.nodes ≡ length (state_of w m).nodes → SameCounts w (with_state w m q)
state_same w m q e = record {
  mutators = length-set w.mutators m q;
  serials = λ k. elim (cases_lt m (length w.mutators)) [
    | inl lt ↦ elim (eqb_tells k m) [
      | inl same ↦ rw (same.1, get_or-set_same w.mutators m q no_mutator lt) e
      | inr n ↦ rw (get_or-set_other w.mutators m k q no_mutator n.1) refl
    ]
    | inr le ↦ rw (set_past w.mutators m q le) refl
  ];
}

held_nodes : (state : MutatorState) (register : ℕ) (o : Option Value) → length (holding_given state register o).nodes ≡ length state.nodes
held_nodes state register None = refl
held_nodes state register (Some v) = refl

keeping_same : (w : World) (m register : ℕ) (r : Reply) → SameCounts w (keeping w m register r)
keeping_same w m register (reply.Given v) = state_same w m _ refl
keeping_same w m register reply.Fine = same_counts w
keeping_same w m register reply.Yes = same_counts w
keeping_same w m register reply.No = same_counts w
keeping_same w m register reply.Updated = same_counts w
keeping_same w m register reply.Already = same_counts w
keeping_same w m register reply.NoPointer = same_counts w
keeping_same w m register reply.NoField = same_counts w
keeping_same w m register reply.WrongKind = same_counts w
keeping_same w m register reply.NotOwner = same_counts w
keeping_same w m register reply.Fixed = same_counts w
keeping_same w m register reply.Dead = same_counts w
keeping_same w m register reply.Nothing = same_counts w
keeping_same w m register reply.StackFull = same_counts w
keeping_same w m register reply.StackEmpty = same_counts w

node_same : (w : World) (name : Name) (made : Node) → SameCounts w (with_node w name made)
node_same w name made = elim (eqb_tells name.maker SHARED_MAKER) [
  | inl p ↦ rw p.0 (record { mutators = refl; serials = λ k. refl })
  | inr p ↦ rw p.0 (state_same w name.maker (with_nth (state_of w name.maker) name.serial made) (length-set (state_of w name.maker).nodes name.serial made))
]

change_node_same : (w : World) (name : Name) (o : Option Node) (c : Change) → SameCounts w (change_node w name o c).0
change_node_same w name None c = same_counts w
change_node_same w name (Some found) c = node_same w name (changed c name.maker found).0

change_same : (w : World) (v : Value) (c : Change) → SameCounts w (change_object w v c).0
change_same w value.Nil c = same_counts w
change_same w (value.Number n) c = same_counts w
change_same w (value.Ref name) c = change_node_same w name (node_of w name) c

asked_mutators : (w : World) (a : Option (Value × Change)) → length (change_asked w a).0.mutators ≡ length w.mutators
asked_mutators w None = refl
asked_mutators w (Some (object, c)) = (change_same w object c).mutators

-- a mutator still exists after the change that was asked for
pub asked_keeps : (w v : World) (r : Reply) (a : Option (Value × Change)) (m : ℕ) → change_asked w a ≡ (v, r) → m < length w.mutators → m < length v.mutators
asked_keeps w v r a m e lt =
    let count : length v.mutators ≡ length w.mutators = sym (ap (λ (p : World × Reply). length p.0.mutators) e) ∙ asked_mutators w a in omega arith

-- a name stays in the map if no serial fell
names_stay : (w v : World) → ((k : ℕ) → serial_of w k ≤ serial_of v k) → (name : Name) → IsSome (node_of w name) → IsSome (node_of v name)
names_stay w v serials name h = elim (eqb_tells name.maker SHARED_MAKER) [
  | inl p ↦ elim (eqb_tells name.serial 0) [
    | inl z ↦ rw (p.0, z.0) refl
    | inr z ↦ rw (p.0, z.0) (rw (p.0, z.0) at h)
  ]
  | inr p ↦
      let lt : name.serial < serial_of w name.maker = get_is_some (state_of w name.maker).nodes name.serial (rw p.0 at h) in
      let le : serial_of w name.maker ≤ serial_of v name.maker = serials name.maker in
      rw p.0 (is_some_get (state_of v name.maker).nodes name.serial (omega arith))
]

same_grows : (w v : World) (m : ℕ) → SameCounts w v → Grows w v m
same_grows w v m h =
    let serials : (k : ℕ) → serial_of w k ≤ serial_of v k = λ k. let e : serial_of v k ≡ serial_of w k = h.serials k in omega arith in
    record {
      mutators = h.mutators;
      serials = serials;
      by_one = let e : serial_of v m ≡ serial_of w m = h.serials m in omega arith;
      names = names_stay w v serials;
    }

born_grows : (w : World) (m register : ℕ) (made : Node) → m < length w.mutators → Grows w (born w m register made).0 m
born_grows w m register made lt =
    let q = with_new (state_of w m) m register made in
    let v : World = with_state w m q in
    let count : length ((state_of w m).nodes ++ made ∷ []) ≡ serial_of w m + 1 = length-append (state_of w m).nodes (made ∷ []) in
    let own : serial_of v m ≡ serial_of w m + 1 = ap (λ (s : MutatorState). length s.nodes) (get_or-set_same w.mutators m q no_mutator lt) ∙ count in
    let serials : (k : ℕ) → serial_of w k ≤ serial_of v k = λ k. elim (eqb_tells k m) [
      | inl same ↦ rw same.1 (omega arith)
      | inr n ↦ let e : serial_of v k ≡ serial_of w k = ap (λ (s : MutatorState). length s.nodes) (get_or-set_other w.mutators m k q no_mutator n.1) in
          omega arith
    ] in
    record { mutators = length-set w.mutators m q; serials = serials; by_one = omega arith; names = names_stay w v serials }

change_into_same : (w : World) (m dest : ℕ) (v : Value) (c : Change) → SameCounts w (change_into m dest (change_object w v c)).0
change_into_same w m dest v c =
    let r : World × Reply = change_object w v c in
    same_then w r.0 (keeping r.0 m dest r.1) (change_same w v c) (keeping_same r.0 m dest r.1)

-- growth by each command
pub step_grows : (w : World) (m : ℕ) (c : Command) → m < length w.mutators → Grows w (step w m c).0 m
step_grows w m (Num dest number) lt = same_grows w _ m (state_same w m _ refl)
step_grows w m (Nil dest) lt = same_grows w _ m (state_same w m _ refl)
step_grows w m (Mov dest v) lt = same_grows w _ m (state_same w m _ refl)
step_grows w m (Con dest tag fields) lt = born_grows w m dest _ lt
step_grows w m (Var dest v) lt = born_grows w m dest _ lt
step_grows w m (Arr dest count v) lt = born_grows w m dest _ lt
step_grows w m (Rec dest fields) lt = born_grows w m dest _ lt
step_grows w m (Thunk dest free) lt = born_grows w m dest _ lt
step_grows w m (Weak dest key v finaliser) lt = born_grows w m dest _ lt
step_grows w m (Stack dest size) lt = born_grows w m dest _ lt
step_grows w m (Get dest object index) lt = same_grows w _ m (keeping_same w m dest _)
step_grows w m (Tag dest object) lt = same_grows w _ m (keeping_same w m dest _)
step_grows w m (Set object index v) lt = same_grows w _ m (change_same w (value_for w m object) (change.Set index (value_for w m v)))
step_grows w m (Cas object index expected v) lt =
    same_grows w _ m (change_same w (value_for w m object) (change.Exchange index (value_for w m expected) (value_for w m v)))
step_grows w m (Update object v) lt = same_grows w _ m (change_same w (value_for w m object) (change.Update (value_for w m v)))
step_grows w m (Force dest object) lt = same_grows w _ m (keeping_same w m dest _)
step_grows w m (Push object v) lt = same_grows w _ m (change_same w (value_for w m object) (change.Push m (value_for w m v)))
step_grows w m (Pop dest object) lt = same_grows w _ m (change_into_same w m dest (value_for w m object) (change.Pop m))
step_grows w m (Deref dest object) lt = same_grows w _ m (keeping_same w m dest _)
step_grows w m (Finalise dest object) lt = same_grows w _ m (change_into_same w m dest (value_for w m object) change.Finalise)
step_grows w m (NextFin dest) lt = same_grows w _ m (state_same w m _ (held_nodes _ dest _))
step_grows w m (Show v) lt = same_grows w w m (same_counts w)
step_grows w m (Same left right) lt = same_grows w w m (same_counts w)
step_grows w m Yield lt = same_grows w w m (same_counts w)
step_grows w m Collect lt = same_grows w w m (same_counts w)
step_grows w m Full lt = same_grows w w m (same_counts w)

-- growth by a call that may fail for lack of memory
pub answer_grows : (w v : World) (m : ℕ) (c : Command) (r : Result Reply NoMemory) → m < length w.mutators →
    IfOk r (λ reply. ◌≡◌ {A = World × Reply} (step w m c) (v, reply)) → OnErr r (v ≡ w) → Grows w v m
answer_grows w v m c (Ok reply) lt ok err = subst (λ (u : World). Grows w u m) (ap (λ (p : World × Reply). p.0) ok) (step_grows w m c lt)
answer_grows w v m c (Err e) lt ok err = subst (λ (u : World). Grows w u m) (sym err) (same_grows w w m (same_counts w))
