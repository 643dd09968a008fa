-- A command that changes a node changes one field of its object at most, and only a field that may change.
use Rattle.std.specs.Prelude.{◌≡◌, ◌≢◌, ◌⊎◌, ◌+◌, ◌-◌, ◌<◌, ◌≤◌, ◌∷◌, ◌++◌}
use Rattle.nmgc_heap_spec.specs.laws.Vocabulary.{inl, inr, ℕ, zero, suc, List, [], length, map, set, take, replicate, refl, sym, ap, subst, ◌∙◌, arith, Bool, true, false, cond, eqb, ltb, Option, Some, None, length-set, length-append, slice_get, ltb-true, length-map, slice_get_within, Value, Node, Parts, Con, Var, Arr, Thunk, Weak, Stack, Reply, Yes, No, Change, IsSized, is_same, exchanged_at, field_set, field_exchanged, thunk_updated, stack_pushed, stack_popped, without_last, weak_finalised, changed, slice_get-set_other, item_map, item_left, Slot, holds, unset, unspecified, ChangesAt}
use Rattle.nmgc_world_spec.specs.declared.change.Change.TheVariants as change
use Rattle.nmgc_world_spec.specs.declared.node.Kind.TheVariants as kind
use Rattle.nmgc_heap_spec.specs.laws.Kinds.{map_item, item_right, item_cases, item_all, all_item}

-- the node is as it was, or one field changed
abbrev pub ChangesOne : Node → Node → Type 0
ChangesOne node made = (made ≡ node) ⊎ ((i : ℕ) × ChangesAt i node made)

var_changed : (old v : Value) → ChangesAt 0 (Var old) (Var v)
var_changed old v = record {
  header = refl;
  within = omega arith;
  may = tt;
  rest = λ j slot ne e. absurd (ne (let l = slice_get_within (holds v ∷ []) j slot e in omega (arith, l)));
}

arr_changed : (values : List Value) (i : ℕ) (v : Value) → i < length values → ChangesAt i (Arr values) (Arr (set values i v))
arr_changed values i v lt = record {
  header = ap (λ (n : ℕ). record { kind = kind.Arr; tag = 0; fields = n }) (length-set values i v);
  within = lt;
  may = tt;
  rest = λ j slot ne e.
      let x = map_item holds (set values i v) j slot e in
      let was = item_map holds values j x.0 (sym (slice_get-set_other values i j v ne) ∙ x.1) in
      inl (was ∙ ap Some (sym x.2));
}

thunk_changed : (free : List Value) (v : Value) → ChangesAt 0 (Thunk free None) (Thunk free (Some v))
thunk_changed free v = record { header = refl; within = omega arith; may = refl; rest = rest }
  where
    rest : (j : ℕ) (slot : Slot) → j ≢ 0 → slice_get (holds v ∷ replicate (length free) unspecified) j ≡ Some slot →
        (slice_get (unset ∷ map holds free) j ≡ Some slot) ⊎ (slot ≡ unspecified)
    rest zero slot ne e = absurd (ne refl)
    rest (suc j) slot ne e = inr (all_item (length free) j unspecified slot e).0

-- a stack's slots except the top are as before
stack_slots : (size : ℕ) (values : List Value) (v : Value) (j : ℕ) (slot : Slot) → length values < size → j ≢ length values →
    slice_get (map holds values ++ replicate (size - length values) unset) j ≡ Some slot →
    slice_get (map holds (values ++ v ∷ []) ++ replicate (size - length (values ++ v ∷ [])) unset) j ≡ Some slot
stack_slots size values v j slot lt ne e =
    let n : length (values ++ v ∷ []) ≡ length values + 1 = length-append values (v ∷ []) in
    let m = length-map values holds in
    let m' = length-map (values ++ v ∷ []) holds in
    elim (item_cases (map holds values) (replicate (size - length values) unset) j slot e) [
      | inl l ↦
          let x = map_item holds values j slot l in
          let up = item_map holds (values ++ v ∷ []) j x.0 (item_left values (v ∷ []) j x.0 x.1) ∙ ap Some (sym x.2) in
          item_left (map holds (values ++ v ∷ [])) (replicate (size - length (values ++ v ∷ [])) unset) j slot up
      | inr r ↦
          let a = all_item (size - length values) r.0 unset slot r.2 in
          let k : ℕ = j - length (values ++ v ∷ []) in
          let z : length (map holds (values ++ v ∷ [])) + k ≡ j = omega (arith, r.1, m, m', n) in
          let b = item_right (map holds (values ++ v ∷ [])) (replicate (size - length (values ++ v ∷
          [])) unset) k unset (item_all (size - length (values ++ v ∷ [])) k unset (omega (arith, r.1, m, n, a.1))) in
          rw z at (b ∙
          ap Some (sym a.0))
    ]

slots_stack : (size : ℕ) (values : List Value) (v : Value) (j : ℕ) (slot : Slot) → length values < size → j ≢ length values →
    slice_get (map holds (values ++ v ∷ []) ++ replicate (size - length (values ++ v ∷ [])) unset) j ≡ Some slot →
    slice_get (map holds values ++ replicate (size - length values) unset) j ≡ Some slot
slots_stack size values v j slot lt ne e =
    let n : length (values ++ v ∷ []) ≡ length values + 1 = length-append values (v ∷ []) in
    let m = length-map values holds in
    let m' = length-map (values ++ v ∷ []) holds in
    elim (item_cases (map holds (values ++ v ∷ [])) (replicate (size - length (values ++ v ∷ [])) unset) j slot e) [
      | inl l ↦
          let x = map_item holds (values ++ v ∷ []) j slot l in
          let within : j < length values = let b = slice_get_within (values ++ v ∷ []) j x.0 x.1 in omega (arith, b, n) in
          let was : slice_get values j ≡ Some x.0 = elim (item_cases values (v ∷ []) j x.0 x.1) [ inl f ↦ f | inr f ↦ absurd (omega (arith, f.1)) ] in
          item_left (map holds values) (replicate (size - length values) unset) j slot (item_map holds values j x.0 was ∙ ap Some (sym x.2))
      | inr r ↦
          let a = all_item (size - length (values ++ v ∷ [])) r.0 unset slot r.2 in
          let k : ℕ = j - length values in
          let z : length (map holds values) + k ≡ j = omega (arith, r.1, m, m', n) in
          let b = item_right (map holds values) (replicate (size - length values) unset) k unset
          (item_all (size - length values) k unset (omega (arith, r.1, m', n, a.1))) in
          subst (λ (i : ℕ). slice_get (map holds values ++ replicate (size - length values) unset) i ≡ Some slot) z (b ∙ ap Some (sym a.0))
    ]

pushed_one : (size : ℕ) (values : List Value) (v : Value) → length values < size → ChangesAt (length values) (Stack size values) (Stack size (values ++ v ∷ []))
pushed_one size values v lt = record { header = refl; within = lt; may = tt; rest = λ j slot ne e. inl (slots_stack size values v j slot lt ne e) }

popped_one : (size : ℕ) (values : List Value) (v : Value) → length values < size → ChangesAt (length values) (Stack size (values ++ v ∷ [])) (Stack size values)
popped_one size values v lt = record { header = refl; within = lt; may = tt; rest = λ j slot ne e. inl (stack_slots size values v j slot lt ne e) }

-- a list that isn't empty has a last item
last_apart : (values : List Value) → (values ≡ []) ⊎ ((front : List Value) × (v : Value) × (values ≡ front ++ v ∷ []) × (without_last values ≡ front))
last_apart [] = inl refl
last_apart (x ∷ []) = inr ([], x, refl, refl)
last_apart (x ∷ y ∷ values) = elim (last_apart (y ∷ values)) [
  | inl e ↦ absurd cc
  | inr h ↦ inr (x ∷ h.0, h.1, ap (λ (l : List Value). x ∷ l) h.2, taken ∙ ap (λ (l : List Value). x ∷ l) h.3)
]
  where
    taken : without_last (x ∷ y ∷ values) ≡ x ∷ without_last (y ∷ values)
    taken = let n : length (x ∷ y ∷ values) - 1 ≡ suc (length (y ∷ values) - 1) = omega arith in ap (λ (k : ℕ). take k (x ∷ y ∷ values)) n

pop_one : (size : ℕ) (values : List Value) → length values ≤ size → ChangesOne (Stack size values) (Stack size (without_last values))
pop_one size values fits = elim (last_apart values) [
  | inl e ↦ inl (rw e refl)
  | inr h ↦
      let n : length (h.0 ++ h.1 ∷ []) ≡ length h.0 + 1 = length-append h.0 (h.1 ∷ []) in
      let m : length values ≡ length (h.0 ++ h.1 ∷ []) = ap length h.2 in
      let p = popped_one size h.0 h.1 (omega arith) in
      inr (
        length h.0,
        rw h.3 (rw h.2 p),
      )
]

pub died : (p : Parts) → ChangesAt 1 (Weak (Some p)) (Weak None)
died p = record { header = refl; within = omega arith; may = refl; rest = rest }
  where
    rest : (j : ℕ) (slot : Slot) → j ≢ 1 → slice_get (unspecified ∷ unset ∷ unspecified ∷ []) j ≡ Some slot →
        (slice_get (holds p.key ∷ holds p.value ∷ holds p.finaliser ∷ []) j ≡ Some slot) ⊎ (slot ≡ unspecified)
    rest zero slot ne e = inr cc
    rest (suc zero) slot ne e = absurd (ne refl)
    rest (suc (suc zero)) slot ne e = inr cc
    rest (suc (suc (suc j))) slot ne e = absurd cc

exchange_one : (b : Bool) (kept written : Node) → ChangesOne kept written → ChangesOne kept (cond {A = Node × Reply} b (written, Yes) (kept, No)).0
exchange_one true kept written c = c
exchange_one false kept written c = inl refl

exchange_at_one : (o : Option Value) (expected : Value) (kept written : Node) → ((old : Value) → o ≡ Some old → ChangesOne kept written) →
    ChangesOne kept (exchanged_at o expected kept written).0
exchange_at_one None expected kept written c = inl refl
exchange_at_one (Some old) expected kept written c = exchange_one (is_same old expected) kept written (c old refl)

either : (b : Bool) (kept made : Node) (r s : Reply) → (b ≡ true → ChangesOne kept made) → ChangesOne kept (cond {A = Node × Reply} b (made, r) (kept, s)).0
either true kept made r s c = c refl
either false kept made r s c = inl refl

set_one : (node : Node) (i : ℕ) (v : Value) → ChangesOne node (field_set node i v).0
set_one (Con tag values) i v = inl refl
set_one (Var old) i v = either (eqb i 0) (Var old) (Var v) _ _ (λ e. inr (0, var_changed old v))
set_one (Arr values) i v = either (ltb i (length values)) (Arr values) (Arr (set values i v)) _ _ (λ e. inr (
  i,
  arr_changed values i v (ltb-true i (length values) e),
))
set_one (Thunk free result) i v = inl refl
set_one (Weak parts) i v = inl refl
set_one (Stack size values) i v = inl refl

exchanged_one : (node : Node) (i : ℕ) (expected v : Value) → ChangesOne node (field_exchanged node i expected v).0
exchanged_one (Con tag values) i expected v = inl refl
exchanged_one (Var old) i expected v = exchange_at_one (slice_get (old ∷ []) i) expected (Var old) (Var v) (λ x e. inr (0, var_changed old v))
exchanged_one (Arr values) i expected v = exchange_at_one (slice_get values i) expected (Arr values) (Arr (set values i v)) (λ x e. inr (
  i,
  arr_changed values i v (slice_get_within values i x e),
))
exchanged_one (Thunk free result) i expected v = inl refl
exchanged_one (Weak parts) i expected v = inl refl
exchanged_one (Stack size values) i expected v = inl refl

updated_one : (node : Node) (v : Value) → ChangesOne node (thunk_updated node v).0
updated_one (Thunk free None) v = inr (0, thunk_changed free v)
updated_one (Thunk free (Some old)) v = inl refl
updated_one (Con tag values) v = inl refl
updated_one (Var x) v = inl refl
updated_one (Arr values) v = inl refl
updated_one (Weak parts) v = inl refl
updated_one (Stack size values) v = inl refl

push_one : (own : Bool) (node : Node) (v : Value) → ChangesOne node (stack_pushed own node v).0
push_one true (Stack size values) v = either (ltb (length values) size) (Stack size values) (Stack size (values ++ v ∷ [])) _ _ (λ e.
    inr (length values, pushed_one size values v (ltb-true (length values) size e)))
push_one false (Stack size values) v = inl refl
push_one own (Con tag values) v = inl refl
push_one own (Var x) v = inl refl
push_one own (Arr values) v = inl refl
push_one own (Thunk free result) v = inl refl
push_one own (Weak parts) v = inl refl

pop_changes_one : (own : Bool) (node : Node) → IsSized node → ChangesOne node (stack_popped own node).0
pop_changes_one true (Stack size values) s = pop_one size values s
pop_changes_one false (Stack size values) s = inl refl
pop_changes_one own (Con tag values) s = inl refl
pop_changes_one own (Var x) s = inl refl
pop_changes_one own (Arr values) s = inl refl
pop_changes_one own (Thunk free result) s = inl refl
pop_changes_one own (Weak parts) s = inl refl

finalised_one : (node : Node) → ChangesOne node (weak_finalised node).0
finalised_one (Weak (Some p)) = inr (1, died p)
finalised_one (Weak None) = inl refl
finalised_one (Con tag values) = inl refl
finalised_one (Var x) = inl refl
finalised_one (Arr values) = inl refl
finalised_one (Thunk free result) = inl refl
finalised_one (Stack size values) = inl refl

pub changed_one : (c : Change) (maker : ℕ) (node : Node) → IsSized node → ((changed c maker node).0 ≡ node) ⊎
    ((i : ℕ) × ChangesAt i node (changed c maker node).0)
changed_one (change.Set i v) maker node s = set_one node i v
changed_one (change.Exchange i expected v) maker node s = exchanged_one node i expected v
changed_one (change.Update v) maker node s = updated_one node v
changed_one (change.Push m v) maker node s = push_one (eqb maker m) node v
changed_one (change.Pop m) maker node s = pop_changes_one (eqb maker m) node s
changed_one change.Finalise maker node s = finalised_one node
