-- The fields that a command breaks: fields of the object that it changes, at positions that it may write or remove.
use Rattle.nmgc_barrier_checker.proofs.Vocabulary.{◌≡◌, ◌≢◌, ◌<◌, ◌≤◌, ◌-◌, ℕ, [], ◌∷◌, ◌++◌, zero, suc, length, set, take, refl, sym, ap, subst, ◌∙◌, arith, Some, None, Bool, true, false, eqb, ltb, inl, inr, ◌⊎◌, slice_get, ne_eqb, cases_eq, slice_get_within, SHARED_MAKER, Name, Value, Node, Con, Var, Arr, Thunk, Weak, Stack, Command, Fine, NoField, StackFull, Change, changed, field_set, field_exchanged, stack_pushed, stack_popped, World, node_of, asked, step, slice_get-set_other, slice_get-append, slice_get-take, strong_at, two_nodes, exchanged_node, node_born, next_is_new, node_cases, Object, Stepped, Any, stepped, still_there, hand_nodes, IsBroken, first_place, end_place}
use Rattle.nmgc_world_spec.specs.declared.value.Value.TheVariants as value
use Rattle.nmgc_world_spec.specs.declared.change.Change.TheVariants as change

abbrev Stays : Node → ℕ → Value → Type 0
Stays made i x = strong_at made i ≡ Some x

-- a write leaves the other fields
set_leaves : (index : ℕ) (v : Value) (node : Node) (i : ℕ) (x : Value) → i ≢ index → Stays node i x → Stays (field_set node index v).0 i x
set_leaves index v (Con tag values) i x ne h = h
set_leaves zero v (Var old) zero x ne h = absurd (ne refl)
set_leaves zero v (Var old) (suc i) x ne h = absurd cc
set_leaves (suc index) v (Var old) i x ne h = let e : eqb (suc index) 0 ≡ false = ne_eqb (suc index) 0 (λ z. absurd (omega arith)) in rw e h
set_leaves index v (Arr values) i x ne h =
    two_nodes (λ n. Stays n i x) (ltb index (length values)) (Arr (set values index v)) (Arr values) Fine NoField
    (slice_get-set_other values index i v ne ∙ h) h
set_leaves index v (Thunk free result) i x ne h = h
set_leaves index v (Weak parts) i x ne h = h
set_leaves index v (Stack size values) i x ne h = h

exchange_leaves : (index : ℕ) (expected v : Value) (node : Node) (i : ℕ) (x : Value) → i ≢ index → Stays node i x →
    Stays (field_exchanged node index expected v).0 i x
exchange_leaves index expected v (Con tag values) i x ne h = h
exchange_leaves zero expected v (Var old) zero x ne h = absurd (ne refl)
exchange_leaves zero expected v (Var old) (suc i) x ne h = absurd cc
exchange_leaves (suc index) expected v (Var old) i x ne h = h
exchange_leaves index expected v (Arr values) i x ne h = exchanged_node (λ n.
    Stays n i x) (slice_get values index) expected (Arr values) (Arr (set values index v)) (slice_get-set_other values index i v ne ∙ h) h
exchange_leaves index expected v (Thunk free result) i x ne h = h
exchange_leaves index expected v (Weak parts) i x ne h = h
exchange_leaves index expected v (Stack size values) i x ne h = h

abbrev Moves : Change → Node → ℕ → Value → Node → Type 0
Moves c node i x made = Stays made i x ⊎ ((first_place c node ≤ i) × (i < end_place c node))

-- after a change a strong field is unchanged, or the change may write or remove it
place_moves : (c : Change) (maker : ℕ) (node : Node) (i : ℕ) (x : Value) → Stays node i x → Moves c node i x (changed c maker node).0
place_moves (change.Set index v) maker node i x h = elim (cases_eq i index) [
  | inl e ↦ inr (omega arith, omega arith)
  | inr ne ↦ inl (set_leaves index v node i x ne h)
]
place_moves (change.Exchange index expected v) maker node i x h = elim (cases_eq i index) [
  | inl e ↦ inr (omega arith, omega arith)
  | inr ne ↦ inl (exchange_leaves index expected v node i x ne h)
]
place_moves (change.Update v) maker (Con tag values) i x h = inl h
place_moves (change.Update v) maker (Var old) i x h = inl h
place_moves (change.Update v) maker (Arr values) i x h = inl h
place_moves (change.Update v) maker (Thunk free None) zero x h = absurd cc
place_moves (change.Update v) maker (Thunk free None) (suc i) x h = let lt : i < length free = slice_get_within free i x h in inr (omega arith, omega arith)
place_moves (change.Update v) maker (Thunk free (Some result)) i x h = inl h
place_moves (change.Update v) maker (Weak parts) i x h = inl h
place_moves (change.Update v) maker (Stack size values) i x h = inl h
place_moves (change.Push m v) maker (Con tag values) i x h = inl h
place_moves (change.Push m v) maker (Var old) i x h = inl h
place_moves (change.Push m v) maker (Arr values) i x h = inl h
place_moves (change.Push m v) maker (Thunk free result) i x h = inl h
place_moves (change.Push m v) maker (Weak parts) i x h = inl h
place_moves (change.Push m v) maker (Stack size values) i x h = inl (pushed (eqb maker m))
  where
    pushed : (own : Bool) → Stays (stack_pushed own (Stack size values) v).0 i x
    pushed true = two_nodes (λ n. Stays n i x) (ltb (length values) size) (Stack size (values ++ v ∷
        [])) (Stack size values) Fine StackFull (slice_get-append values (v ∷ []) i x h) h
    pushed false = h
place_moves (change.Pop m) maker (Con tag values) i x h = inl h
place_moves (change.Pop m) maker (Var old) i x h = inl h
place_moves (change.Pop m) maker (Arr values) i x h = inl h
place_moves (change.Pop m) maker (Thunk free result) i x h = inl h
place_moves (change.Pop m) maker (Weak parts) i x h = inl h
place_moves (change.Pop m) maker (Stack size values) i x h =
    let lt : i < length values = slice_get_within values i x h in
    elim (cases_eq i (length values - 1)) [
      | inl e ↦ inr (omega arith, omega arith)
      | inr ne ↦ inl (popped (eqb maker m) (slice_get-take (length values - 1) values i (omega (arith, ne)) ∙ h))
    ]
  where
    popped : (own : Bool) → slice_get (take (length values - 1) values) i ≡ Some x → Stays (stack_popped own (Stack size values)).0 i x
    popped true k = k
    popped false k = h
place_moves change.Finalise maker (Con tag values) i x h = inl h
place_moves change.Finalise maker (Var old) i x h = inl h
place_moves change.Finalise maker (Arr values) i x h = inl h
place_moves change.Finalise maker (Thunk free result) i x h = inl h
place_moves change.Finalise maker (Weak parts) i x h = absurd cc
place_moves change.Finalise maker (Stack size values) i x h = inl h

-- the object and position of a broken field
pub record BrokenAt (w : World) (m : ℕ) (c : Command) (name : Name) (place : ℕ) : Type 0 where
  pub change : Change
  pub node : Node
  pub asks : asked w m c ≡ Some (value.Ref name, change)
  pub there : node_of w name ≡ Some node
  pub first : first_place change node ≤ place
  pub before : place < end_place change node

module _ (snapshot w : World) (m : ℕ) (c : Command) (lt : m < length w.mutators) (own : m ≢ SHARED_MAKER) (target : Name)
    (b : IsBroken snapshot w (step w m c).0 target) where
  between : World
  between = (stepped w m c).between

  -- the node has changed
  still : node_of (step w m c).0 b.name ≡ node_of w b.name → ⊥
  still e = b.gone (record { node = b.stood.node; node_is = e ∙ b.stood.node_is; field = b.stood.field })

  by_hand : (v : World) → (s : Stepped Any w m c v) → node_of v b.name ≡ node_of s.between b.name
  by_hand v s = hand_nodes Any s.between m v (still_there Any w m c v lt s) s.hand b.name

  by_object : (u : World) → Object Any w m c u → node_of (step w m c).0 b.name ≡ node_of u b.name → BrokenAt w m c b.name b.place
  by_object u (Object.same e) k = absurd (still (k ∙ ap (λ (x : World). node_of x b.name) e))
  by_object u (Object.birth register made is e) k = elim (node_born w m register made lt own b.name) [
    | inl born ↦ absurd (let bad : None ≡ Some b.stood.node = sym (next_is_new w m own) ∙ (sym (ap (node_of w) born.0) ∙ b.stood.node_is) in cc)
    | inr old ↦ absurd (still (k ∙ (ap (λ (x : World). node_of x b.name) e ∙ old)))
  ]
  by_object u (Object.write at found ch there asks q e) k = elim (node_cases w at found (changed ch at.maker found).0 there b.name) [
    | inr other ↦ absurd (still (k ∙ (ap (λ (x : World). node_of x b.name) e ∙ other.1)))
    | inl here ↦
        let both : Some found ≡ Some b.stood.node = sym there ∙ (sym (ap (node_of w) here.0) ∙ b.stood.node_is) in
        let is : found ≡ b.stood.node = cc in
        let field : Stays found b.place (value.Ref target) = subst (λ (n : Node). Stays n b.place (value.Ref target)) (sym is) b.stood.field in
        elim (place_moves ch at.maker found b.place (value.Ref target) field) [
          | inl stays ↦ absurd (b.gone (record {
            node = (changed ch at.maker found).0;
            node_is = k ∙
                (ap (λ (x : World). node_of x b.name) e ∙ here.1);
            field = stays;
          }))
          | inr range ↦ record {
            change = ch;
            node = found;
            asks = asks ∙ ap (λ (n : Name). Some (value.Ref n, ch)) (sym here.0);
            there = ap (node_of w) here.0 ∙ there;
            first = range.0;
            before = range.1;
          }
        ]
  ]

  pub broken_at : BrokenAt w m c b.name b.place
  broken_at = let s : Stepped Any w m c (step w m c).0 = stepped w m c in by_object s.between s.object (by_hand (step w m c).0 s)
