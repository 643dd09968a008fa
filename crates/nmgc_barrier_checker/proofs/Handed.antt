-- The names that are found stored are exactly the names that a command stores.
use Rattle.nmgc_barrier_checker.proofs.Vocabulary.{◌≡◌, ◌≢◌, ℕ, List, refl, sym, ap, subst, ◌∙◌, Option, Some, None, Bool, true, false, inl, inr, ◌⊎◌, Contains, IsSome, false≢true, Contains-append_left, Contains-append_right, Contains-append_cases, SHARED_MAKER, Name, Value, Node, Con, Var, Arr, Thunk, Weak, Stack, Parts, Command, World, IsWorld, CanApply, state_of, node_of, step, shared_name, strong_fields, names_among, IsAlive, contains_filter, filter_contains, not_shared, next_is_new, at_some, nothing_in, name_among, HasStrongField, strong_at, Field, stands_in, cond, option_to_list, one_is, contains_one}
use Rattle.nmgc_world_spec.specs.declared.value.Value.TheVariants as value
use Rattle.nmgc_world_spec.specs.World.{next_name}
use Rattle.nmgc_world_laws.specs.{Stored.Stores, laws.Barrier.place_of_field, laws.Barrier.field_at_place, laws.StoredLaws.step_stores, laws.Alive.AliveOk, laws.Alive.WeaksOk, laws.Alive.step_weaks, laws.HeldSteps.alive_ok as each_weak}
use Rattle.nmgc_snapshot_laws.specs.Machine.{is_pushed_in}
use Rattle.nmgc_barrier_laws.specs.{Stored.IsStored, Hybrid.Hybrid, Hybrid.is_scanned, Hybrid.IsHandedOut}
use Rattle.nmgc_barrier_laws.specs.Stored as stored
use Rattle.nmgc_barrier_checker.specs.Dues.{IsComing, came_in, stored_values, values_in, stored_in, handed_in}
use Rattle.nmgc_barrier_checker.proofs.{DueLaws.stands_is, DueLaws.has_stands, DueLaws.among_ref, DueLaws.owable_is, DueLaws.is_owable_by, Queues.queue_fewer}

is_false : (b : Bool) → (b ≡ true → ⊥) → b ≡ false
is_false true never = absurd (never refl)
is_false false never = refl

-- a reference in a strong field is among the stored values
strong_stored : (node : Node) (i : ℕ) (v : Value) → strong_at node i ≡ Some v → Contains (stored_values node) v
strong_stored (Con tag values) i v h = field_at_place (Con tag values) i v h
strong_stored (Var x) i v h = field_at_place (Var x) i v h
strong_stored (Arr values) i v h = field_at_place (Arr values) i v h
strong_stored (Thunk free result) i v h = field_at_place (Thunk free result) i v h
strong_stored (Weak parts) i v h = absurd cc
strong_stored (Stack size values) i v h = field_at_place (Stack size values) i v h

module _ (w : World) (m : ℕ) (c : Command) (is : IsWorld w) (can : CanApply w m c) (field : Option Field) (k : IsComing w m c field) where
  own : m ≢ SHARED_MAKER
  own = not_shared w m is can.mutator

  abbrev after : World
  after = (step w m c).0

  abbrev made : Name
  made = next_name (state_of w m) m

  abbrev came : List Name
  came = option_to_list (came_in after field)

  abbrev in_new : List Name
  in_new = names_among (values_in (node_of after made))

  absent : (node : Node) → node_of w made ≡ Some node → ⊥
  absent node e = let bad : None ≡ Some node = sym (next_is_new w m own) ∙ e in cc

  by_field : (node : Node) → node_of after made ≡ Some node → (t : Name) → Contains (strong_fields node) (value.Ref t) → IsStored w after t
  by_field node e t h =
      let p : (i : ℕ) × (strong_at node i ≡ Some (value.Ref t)) = place_of_field node (value.Ref t) h in
      stored.field made p.0 (record { node = node; node_is = e; field = p.1 }) (λ s. absent s.node s.node_is)

  by_node : (o : Option Node) → node_of after made ≡ o → (t : Name) → Contains (values_in o) (value.Ref t) → IsStored w after t
  by_node None e t h = absurd (nothing_in (value.Ref t) h)
  by_node (Some (Con tag values)) e t h = by_field (Con tag values) e t h
  by_node (Some (Var x)) e t h = by_field (Var x) e t h
  by_node (Some (Arr values)) e t h = by_field (Arr values) e t h
  by_node (Some (Thunk free result)) e t h = by_field (Thunk free result) e t h
  by_node (Some (Weak None)) e t h = absurd (nothing_in (value.Ref t) h)
  by_node (Some (Weak (Some parts))) e t h = stored.part made parts e (λ was. absent (Weak (Some parts)) was) h
  by_node (Some (Stack size values)) e t h = by_field (Stack size values) e t h

  by_came : (o : Option Field) → field ≡ o → (t : Name) → Contains (option_to_list (came_in after o)) t → IsStored w after t
  by_came None e t h = absurd (nothing_in t h)
  by_came (Some g) e t h = by_test (stands_in after g) refl h
    where
      by_test : (b : Bool) → stands_in after g ≡ b → Contains (option_to_list (cond b (Some g.target) None)) t → IsStored w after t
      by_test true now c' = subst (IsStored w after) (one_is g.target t c') (stored.field g.name g.place (stands_is after g now) (λ s.
          false≢true (sym (k.sound g e) ∙ has_stands w g s)))
      by_test false now c' = absurd (nothing_in t c')

  has_came : (g : Field) → field ≡ Some g → stands_in after g ≡ true → Contains came g.target
  has_came g e now = subst (λ (o : Option Field). Contains (option_to_list (came_in after o)) g.target) (sym e)
      (subst (λ (b : Bool). Contains (option_to_list (cond b (Some g.target) None)) g.target) (sym now) (contains_one g.target))

  from_stored : (t : Name) → Contains (stored_in after made field) t → IsStored w after t
  from_stored t h = elim (Contains-append_cases came in_new t h) [
    | inl l ↦ by_came field refl t l
    | inr r ↦ by_node (node_of after made) refl t (among_ref (values_in (node_of after made)) t r)
  ]

  in_made : (node : Node) → node_of after made ≡ Some node → (t : Name) → Contains (stored_values node) (value.Ref t) → Contains (stored_in after made field) t
  in_made node e t h = Contains-append_right came in_new t (name_among (values_in (node_of after made)) t
      (subst (λ (o : Option Node). Contains (values_in o) (value.Ref t)) (sym e) h))

  by_write : (name : Name) (place : ℕ) (t : Name) → HasStrongField after name place (value.Ref t) → (HasStrongField w name place (value.Ref t) → ⊥) →
      Stores w m c name place (value.Ref t) → Contains (stored_in after made field) t
  by_write name place t now never s =
      let g : Field = record { name = name; place = place; target = t } in
      let gone : stands_in w g ≡ false = is_false (stands_in w g) (λ h. never (stands_is w g h)) in
      Contains-append_left came in_new t (has_came g (k.all g s.changes s.node s.asks s.there s.place s.writes gone) (has_stands after g now))

  to_field : (name : Name) (place : ℕ) (t : Name) → HasStrongField after name place (value.Ref t) → (HasStrongField w name place (value.Ref t) → ⊥) →
      Contains (stored_in after made field) t
  to_field name place t now never = elim (step_stores w m c is can name place (value.Ref t) now) [
    | inl was ↦ absurd (never was)
    | inr (inl e) ↦ in_made now.node (ap (node_of after) (sym e) ∙ now.node_is) t (strong_stored now.node place (value.Ref t) now.field)
    | inr (inr s) ↦ by_write name place t now never s
  ]

  -- a weak pointer with these parts had them before, or it is new
  abbrev WasOrMade : Name → Parts → Type 0
  WasOrMade weak parts = IsAlive w weak parts ⊎ (weak ≡ made)

  was_or_made : (weak : Name) (parts : Parts) → IsAlive after weak parts → WasOrMade weak parts
  was_or_made weak parts a =
      let each : WeaksOk WasOrMade after = step_weaks WasOrMade w m c can.mutator own (λ key x finaliser. inr refl)
      (each_weak WasOrMade w (λ n p x. inl x)) in
      at_some (node_of after weak) (Weak (Some parts)) (AliveOk WasOrMade weak) a (each weak)

  to_stored : (t : Name) → IsStored w after t → Contains (stored_in after made field) t
  to_stored t (stored.field name place now never) = to_field name place t now never
  to_stored t (stored.part weak parts a never h) = elim (was_or_made weak parts a) [
    | inl was ↦ absurd (never was)
    | inr e ↦ in_made (Weak (Some parts)) (ap (node_of after) (sym e) ∙ a) t h
  ]
  to_stored t (stored.queue j h never) = absurd (never (queue_fewer w m c is can j (value.Ref t) h))

-- the names that are found handed out are exactly the names that the command hands out
module _ (h : Hybrid) (m : ℕ) (c : Command) (is : IsWorld h.watch.world) (can : CanApply h.watch.world m c) (field : Option Field)
    (k : IsComing h.watch.world m c field) where
  abbrev pub handed : List Name
  handed = handed_in (is_scanned h m) h.watch.snapshot (step h.watch.world m c).0 (next_name (state_of h.watch.world m) m) field

  pub found_handed : (t : Name) → Contains handed t → IsHandedOut h m c t
  found_handed t = by_flag (is_scanned h m) refl
    where
      by_flag : (b : Bool) → is_scanned h m ≡ b →
          Contains (handed_in b h.watch.snapshot (step h.watch.world m c).0 (next_name (state_of h.watch.world m) m) field) t → IsHandedOut h m c t
      by_flag true e d = absurd (nothing_in t d)
      by_flag false e d =
          let found : List Name = stored_in (step h.watch.world m c).0 (next_name (state_of h.watch.world m) m) field in
          let p : Contains found t × (is_pushed_in h.watch.snapshot t ≡ true) = filter_contains (is_pushed_in h.watch.snapshot) found t d in
          let q : IsSome (node_of h.watch.snapshot t) × (t ≢ shared_name) = owable_is h.watch.snapshot t p.1 in
          record { unscanned = e; there = q.0; own = q.1; stored = from_stored h.watch.world m c is can field k t p.0 }

  pub handed_found : (t : Name) → IsHandedOut h m c t → Contains handed t
  handed_found t d = subst (λ (b : Bool). Contains (handed_in b h.watch.snapshot (step h.watch.world m c).0
      (next_name (state_of h.watch.world m) m) field) t) (sym d.unscanned) (contains_filter (is_pushed_in h.watch.snapshot)
      (stored_in (step h.watch.world m c).0 (next_name (state_of h.watch.world m) m) field) t
      (to_stored h.watch.world m c is can field k t d.stored) (is_owable_by h.watch.snapshot t d.there d.own))
