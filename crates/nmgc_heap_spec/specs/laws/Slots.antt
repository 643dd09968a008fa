-- The contents of a node's slots, their number, and when words still fill them.
use Rattle.std.specs.Prelude.{◌≡◌, ◌+◌, ◌≤◌, ◌-◌, ◌∷◌, ◌⊎◌}
use Rattle.nmgc_heap_spec.specs.laws.Vocabulary.{ℕ, zero, suc, List, [], length, map, replicate, inl, inr, refl, sym, subst, arith, Some, None, length-append, Contains, slice_get, length-map, length-replicate, All-replicate, All-contains, Contains-append_cases, Name, Value, Nil, Number, Ref, Parts, Node, Con, Var, Arr, Thunk, Weak, Stack, held_by, IsSized, strong_fields, contains_head, contains_tail, contains_cases, no_more, contains_read, Slot, holds, unset, unspecified, header_of, slots_of, fixed_slots, free_slots, MayChange, Place, Means, Fills, HasSlots, ListMeans, slice_index}

-- a slot made from a list of values holds one of them
held_one : (values : List Value) (v : Value) → Contains (map holds values) (holds v) → Contains values v
held_one [] v c = absurd (omega (arith, c.1))
held_one (x ∷ values) v c = elim (contains_cases (holds x) (map holds values) (holds v) c) [
  | inl e ↦ let same : x ≡ v = cc in subst (λ (u : Value). Contains (x ∷ values) u) same (contains_head x values)
  | inr d ↦ contains_tail x values v (held_one values v d)
]

none_held : (n : ℕ) (s : Slot) (v : Value) → (s ≡ holds v → ⊥) → Contains (replicate n s) (holds v) → ⊥
none_held n s v differs c = All-contains (λ t. t ≡ holds v → ⊥) (replicate n s) (holds v) (All-replicate (λ t. t ≡ holds v → ⊥) n s differs) c refl

-- a slot holds a strong field, or a part of a weak pointer that is alive
pub slot_held : (node : Node) (v : Value) → Contains (slots_of node) (holds v) → Contains (strong_fields node) v ⊎
    ((parts : Parts) × (node ≡ Weak (Some parts)) × Contains (parts.key ∷ parts.value ∷ parts.finaliser ∷ []) v)
slot_held (Con tag values) v c = inl (held_one values v c)
slot_held (Var x) v c = inl (held_one (x ∷ []) v c)
slot_held (Arr values) v c = inl (held_one values v c)
slot_held (Thunk free None) v c = elim (contains_cases unset (map holds free) (holds v) c) [
  | inl e ↦ absurd cc
  | inr d ↦ inl (held_one free v d)
]
slot_held (Thunk free (Some result)) v c = elim (contains_cases (holds result) (replicate (length free) unspecified) (holds v) c) [
  | inl e ↦ let same : result ≡ v = cc in inl (subst (λ (u : Value). Contains (result ∷ []) u) same (contains_head result []))
  | inr d ↦ absurd (none_held (length free) unspecified v (λ e. cc) d)
]
slot_held (Weak None) v c = elim (contains_cases unspecified (unset ∷ unspecified ∷ []) (holds v) c) [
  | inl e ↦ absurd cc
  | inr d ↦ elim (contains_cases unset (unspecified ∷ []) (holds v) d) [
    | inl e ↦ absurd cc
    | inr f ↦ elim (contains_cases unspecified [] (holds v) f) [ inl e ↦ absurd cc | inr g ↦ absurd (no_more (holds v) g) ]
  ]
]
slot_held (Weak (Some parts)) v c = inr (parts, refl, held_one (parts.key ∷ parts.value ∷ parts.finaliser ∷ []) v c)
slot_held (Stack size values) v c = elim (Contains-append_cases (map holds values) (replicate (size - length values) unset) (holds v) c) [
  | inl d ↦ inl (held_one values v d)
  | inr d ↦ absurd (none_held (size - length values) unset v (λ e. cc) d)
]

-- a free variable is a fixed slot, which a node without a result has as a strong field
pub free_fixed : (node : Node) (i : ℕ) (slot : Slot) → slice_get (free_slots node) i ≡ Some slot → slice_get (fixed_slots node) i ≡ Some slot
free_fixed (Con tag values) i slot e = e
free_fixed (Var x) i slot e = e
free_fixed (Arr values) i slot e = e
free_fixed (Thunk free None) i slot e = e
free_fixed (Thunk free (Some result)) i slot e = e
free_fixed (Weak parts) i slot e = absurd cc
free_fixed (Stack size values) i slot e = e

pub free_held : (node : Node) (v : Value) → Contains (free_slots node) (holds v) → Contains (strong_fields node) v
free_held (Con tag values) v c = absurd (no_more (holds v) c)
free_held (Var x) v c = absurd (no_more (holds v) c)
free_held (Arr values) v c = absurd (no_more (holds v) c)
free_held (Thunk free None) v c = elim (contains_cases unspecified (map holds free) (holds v) c) [
  | inl e ↦ absurd cc
  | inr d ↦ held_one free v d
]
free_held (Thunk free (Some result)) v c = absurd (no_more (holds v) c)
free_held (Weak parts) v c = absurd (no_more (holds v) c)
free_held (Stack size values) v c = absurd (no_more (holds v) c)

-- a node holds the values in its strong fields
pub strong_held : (node : Node) (v : Value) → Contains (strong_fields node) v → Contains (held_by node) v
strong_held (Con tag values) v c = c
strong_held (Var x) v c = c
strong_held (Arr values) v c = c
strong_held (Thunk free None) v c = c
strong_held (Thunk free (Some result)) v c = elim (contains_cases result [] v c) [
  | inl e ↦
      subst (λ (u : Value). Contains (result ∷ free) u) e (contains_head result free)
  | inr d ↦ absurd (no_more v d)
]
strong_held (Weak parts) v c = absurd (no_more v c)
strong_held (Stack size values) v c = c

-- a permanent field never changes
pub fixed_stays : (node : Node) (i : ℕ) (slot : Slot) → MayChange (header_of node).kind i → slice_get (fixed_slots node) i ≡ Some slot → slot ≡ unspecified
fixed_stays (Con tag values) i slot may e = absurd may
fixed_stays (Var x) i slot may e = absurd cc
fixed_stays (Arr values) i slot may e = absurd cc
fixed_stays (Thunk free None) i slot may e = let z : Some unspecified ≡ Some slot = subst (λ (k : ℕ). slice_get (unspecified ∷ map holds free) k ≡ Some slot) may e in cc
fixed_stays (Thunk free (Some result)) i slot may e = absurd cc
fixed_stays (Weak None) i slot may e = absurd cc
fixed_stays (Weak (Some parts)) i slot may e =
    let z : Some unspecified ≡ Some slot = subst (λ (k : ℕ). slice_get (holds parts.key ∷ unspecified ∷ holds parts.finaliser ∷ []) k ≡ Some slot) may e in cc
fixed_stays (Stack size values) i slot may e = absurd cc

-- there is a slot for each field
pub slot_count : (node : Node) → IsSized node → length (slots_of node) ≡ (header_of node).fields
slot_count (Con tag values) s = length-map values holds
slot_count (Var x) s = refl
slot_count (Arr values) s = length-map values holds
slot_count (Thunk free None) s = let e = length-map free holds in omega (arith, e)
slot_count (Thunk free (Some result)) s = let e = length-replicate (length free) unspecified in omega (arith, e)
slot_count (Weak None) s = refl
slot_count (Weak (Some parts)) s = refl
slot_count (Stack size values) s =
    let a = length-append (map holds values) (replicate (size - length values) unset) in
    let b = length-map values holds in
    let c = length-replicate (size - length values) unset in
    omega (arith, a, b, c)

pub fixed_count : (node : Node) → length (fixed_slots node) ≤ (header_of node).fields
fixed_count (Con tag values) = omega arith
fixed_count (Var x) = omega arith
fixed_count (Arr values) = omega arith
fixed_count (Thunk free None) = let e = length-map free holds in omega (arith, e)
fixed_count (Thunk free (Some result)) = omega arith
fixed_count (Weak None) = omega arith
fixed_count (Weak (Some parts)) = omega arith
fixed_count (Stack size values) = omega arith

pub free_count : (node : Node) → length (free_slots node) ≤ (header_of node).fields
free_count (Con tag values) = omega arith
free_count (Var x) = omega arith
free_count (Arr values) = omega arith
free_count (Thunk free None) = let e = length-map free holds in omega (arith, e)
free_count (Thunk free (Some result)) = omega arith
free_count (Weak parts) = omega arith
free_count (Stack size values) = omega arith

-- a node's own slots have its permanent fields
pub fixed_own : (node : Node) (i : ℕ) (slot : Slot) → slice_get (fixed_slots node) i ≡ Some slot → (slot ≡ unspecified) ⊎ (slice_get (slots_of node) i ≡ Some slot)
fixed_own (Con tag values) i slot e = absurd cc
fixed_own (Var x) i slot e = absurd cc
fixed_own (Arr values) i slot e = absurd cc
fixed_own (Thunk free None) zero slot e = inl cc
fixed_own (Thunk free None) (suc i) slot e = inr e
fixed_own (Thunk free (Some result)) i slot e = absurd cc
fixed_own (Weak None) i slot e = absurd cc
fixed_own (Weak (Some parts)) zero slot e = inr e
fixed_own (Weak (Some parts)) (suc zero) slot e = inl cc
fixed_own (Weak (Some parts)) (suc (suc zero)) slot e = inr e
fixed_own (Weak (Some parts)) (suc (suc (suc i))) slot e = absurd cc
fixed_own (Stack size values) i slot e = absurd cc

-- a word keeps its meaning with other places that include the place of each name it refers to
module _ (P Q : Place → Type 0) where
  pub means_in : (word : ℕ) (v : Value) → ((n : Name) (at : ℕ) → v ≡ Ref n → P (record { at = at; name = n }) → Q (record { at = at; name = n })) →
      Means P word v → Means Q word v
  means_in word Nil known m = m
  means_in word (Number n) known m = m
  means_in word (Ref n) known m = (m.0, m.1, known n m.0 refl m.2)

  pub fills_in : (word : ℕ) (slot : Slot) → ((n : Name) (at : ℕ) → slot ≡ holds (Ref n) → P (record { at = at; name = n }) →
      Q (record { at = at; name = n })) → Fills P word slot → Fills Q word slot
  fills_in word (holds v) known m = means_in word v (λ n at e. known n at (let s : holds v ≡ holds (Ref n) = cc in s)) m
  fills_in word unset known m = m
  fills_in word unspecified known m = tt

  -- slots are still filled if the words differ in unspecified fields alone
  pub slots_in : (words us : List ℕ) (from : ℕ) (slots : List Slot) →
      ((n : Name) (at : ℕ) → Contains slots (holds (Ref n)) → P (record { at = at; name = n }) → Q (record { at = at; name = n })) →
      ((i : ℕ) (slot : Slot) → slice_get slots i ≡ Some slot → (slot ≡ unspecified) ⊎ (slice_index us (from + i) ≡ slice_index words (from + i))) →
      HasSlots P words from slots → HasSlots Q us from slots
  slots_in words us from slots known same h i slot e = elim (same i slot e) [
    | inl u ↦ subst (λ (s : Slot). Fills Q (slice_index us (from + i)) s) (sym u) tt
    | inr w ↦ rw w (fills_in (slice_index words (from + i)) slot (λ n at s.
        known n at (rw s at (contains_read slots i slot e))) (h i slot e))
  ]

  module _ (more : (p : Place) → P p → Q p) where
    pub means_more : (word : ℕ) (v : Value) → Means P word v → Means Q word v
    means_more word v m = means_in word v (λ n at e. more (record { at = at; name = n })) m

    pub list_more : (words : List ℕ) (values : List Value) → ListMeans P words values → ListMeans Q words values
    list_more [] [] h = tt
    list_more [] (v ∷ vs) h = absurd h
    list_more (w ∷ ws) [] h = absurd h
    list_more (w ∷ ws) (v ∷ vs) h = (means_more w v h.0, list_more ws vs h.1)

    pub slots_more : (words us : List ℕ) (from : ℕ) (slots : List Slot) →
        ((i : ℕ) (slot : Slot) → slice_get slots i ≡ Some slot → (slot ≡ unspecified) ⊎ (slice_index us (from + i) ≡ slice_index words (from + i))) →
        HasSlots P words from slots → HasSlots Q us from slots
    slots_more words us from slots same h = slots_in words us from slots (λ n at c. more (record { at = at; name = n })) same h
