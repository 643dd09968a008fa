-- The slots of a node of each kind, as its values: `HasSlots` serves all kinds, and a command's step needs the values.
use Rattle.std.specs.Prelude.{◌≡◌, ◌⊎◌, ◌+◌, ◌-◌, ◌<◌, ◌≤◌, ◌∷◌, ◌++◌}
use Rattle.nmgc_heap_spec.specs.laws.Vocabulary.{inl, inr, ℕ, zero, suc, List, [], length, map, replicate, refl, sym, subst, arith, slice_index, Some, None, slice_get, length-map, Value, Node, Con, Var, Arr, Thunk, Weak, Stack, Slot, holds, unset, unspecified, slots_of, fixed_slots, free_slots, Place, Means, Fills, HasSlots, AllMean, item_map, item_left}

pub map_item : {A B : Type 0} (f : A → B) (xs : List A) (i : ℕ) (y : B) → slice_get (map f xs) i ≡ Some y → (x : A) × (slice_get xs i ≡ Some x) × (y ≡ f x)
map_item f [] i y e = absurd cc
map_item f (x ∷ xs) zero y e = (x, refl, cc)
map_item f (x ∷ xs) (suc i) y e = map_item f xs i y e

pub item_right : {A : Type 0} (xs ys : List A) (i : ℕ) (s : A) → slice_get ys i ≡ Some s → slice_get (xs ++ ys) (length xs + i) ≡ Some s
item_right [] ys i s e = let same : zero + i ≡ i = omega arith in rw same e
item_right (x ∷ xs) ys i s e = let same : suc (length xs) + i ≡ suc (length xs + i) = omega arith in rw same (item_right xs ys i s e)

pub item_cases : {A : Type 0} (xs ys : List A) (i : ℕ) (s : A) → slice_get (xs ++ ys) i ≡ Some s → (slice_get xs i ≡ Some s) ⊎
    ((j : ℕ) × (i ≡ length xs + j) × (slice_get ys j ≡ Some s))
item_cases [] ys i s e = inr (i, omega arith, e)
item_cases (x ∷ xs) ys zero s e = inl e
item_cases (x ∷ xs) ys (suc i) s e = elim (item_cases xs ys i s e) [ inl l ↦ inl l | inr r ↦ inr (r.0, omega (arith, r.1), r.2) ]

-- an item of a list of equal items
pub item_all : {A : Type 0} (n i : ℕ) (s : A) → i < n → slice_get (replicate n s) i ≡ Some s
item_all zero i s lt = absurd (omega arith)
item_all (suc n) zero s lt = refl
item_all (suc n) (suc i) s lt = item_all n i s (omega arith)

pub all_item : {A : Type 0} (n i : ℕ) (s t : A) → slice_get (replicate n s) i ≡ Some t → (t ≡ s) × (i < n)
all_item zero i s t e = absurd cc
all_item (suc n) zero s t e = (cc, omega arith)
all_item (suc n) (suc i) s t e = let h = all_item n i s t e in (h.0, omega (arith, h.1))

-- the slots from the depth on are unset
abbrev pub AreUnset : List ℕ → ℕ → ℕ → ℕ → Type 0
AreUnset words from depth size = (i : ℕ) → depth ≤ i → i < size → slice_index words (from + i) ≡ 0

-- the fields of a node, by its kind
abbrev pub HasFields : (Place → Type 0) → List ℕ → ℕ → Node → Type 0
HasFields P words from (Con tag values) = AllMean P words from values
HasFields P words from (Var v) = Means P (slice_index words from) v
HasFields P words from (Arr values) = AllMean P words from values
HasFields P words from (Thunk free None) = (slice_index words from ≡ 0) × AllMean P words (from + 1) free
HasFields P words from (Thunk free (Some result)) = Means P (slice_index words from) result
HasFields P words from (Weak None) = slice_index words (from + 1) ≡ 0
HasFields P words from (Weak (Some parts)) = Means P (slice_index words from) parts.key × Means P (slice_index words (from + 1)) parts.value ×
    Means P (slice_index words (from + 2)) parts.finaliser
HasFields P words from (Stack size values) = AllMean P words from values × AreUnset words from (length values) size

-- the fields that never change, by the kind
abbrev pub KeepsFields : (Place → Type 0) → List ℕ → ℕ → Node → Type 0
KeepsFields P words from (Thunk free None) = AllMean P words (from + 1) free
KeepsFields P words from (Weak (Some parts)) = Means P (slice_index words from) parts.key × Means P (slice_index words (from + 2)) parts.finaliser
KeepsFields P words from _ = Unit {0}

-- the free variables alone of these fields
abbrev pub KeepsFree : (Place → Type 0) → List ℕ → ℕ → Node → Type 0
KeepsFree P words from (Thunk free None) = AllMean P words (from + 1) free
KeepsFree P words from _ = Unit {0}

module _ (P : Place → Type 0) (words : List ℕ) where
  -- words that mean values fill slots that hold them
  pub values_fill : (from : ℕ) (values : List Value) → AllMean P words from values → HasSlots P words from (map holds values)
  values_fill from values h i slot e = let x = map_item holds values i slot e in
      subst (λ (s : Slot). Fills P (slice_index words (from + i)) s) (sym x.2) (h i x.0 x.1)

  pub slots_mean : (from : ℕ) (values : List Value) → HasSlots P words from (map holds values) → AllMean P words from values
  slots_mean from values h i v e = h i (holds v) (item_map holds values i v e)

  -- the first slot of several
  pub slot_first : (from : ℕ) (s : Slot) (slots : List Slot) → HasSlots P words from (s ∷ slots) → Fills P (slice_index words from) s
  slot_first from s slots h = let z : from + 0 ≡ from = omega arith in subst (λ (k : ℕ). Fills P (slice_index words k) s) z (h 0 s refl)

  pub slots_rest : (from : ℕ) (s : Slot) (slots : List Slot) → HasSlots P words from (s ∷ slots) → HasSlots P words (from + 1) slots
  slots_rest from s slots h i t e = let z : from + suc i ≡ from + 1 + i = omega arith in subst (λ (k : ℕ). Fills P (slice_index words k) t) z (h (suc i) t e)

  pub slots_cons : (from : ℕ) (s : Slot) (slots : List Slot) → Fills P (slice_index words from) s → HasSlots P words (from + 1) slots →
      HasSlots P words from (s ∷ slots)
  slots_cons from s slots f h zero t e =
      let same : s ≡ t = cc in
      let z : from ≡ from + 0 = omega arith in
      subst (λ (u : Slot). Fills P (slice_index words (from + 0)) u) same (subst (λ (k : ℕ). Fills P (slice_index words k) s) z f)
  slots_cons from s slots f h (suc i) t e = let z : from + 1 + i ≡ from + suc i = omega arith in subst (λ (k : ℕ). Fills P (slice_index words k) t) z (h i t e)

  pub slots_none : (from : ℕ) → HasSlots P words from []
  slots_none from i t e = absurd cc

  -- unspecified slots ask nothing
  pub slots_unspecified : (from n : ℕ) → HasSlots P words from (replicate n unspecified)
  slots_unspecified from n i t e = let a = all_item n i unspecified t e in subst (λ (u : Slot). Fills P (slice_index words (from + i)) u) (sym a.0) tt

  pub slots_unset : (from depth size : ℕ) (values : List Value) → depth ≡ length values →
      HasSlots P words from (map holds values ++ replicate (size - length values) unset) → AreUnset words from depth size
  slots_unset from depth size values is h i le lt =
      let j : ℕ = i - length values in
      let m = length-map values holds in
      let z : length (map holds values) + j ≡ i = omega (arith, m) in
      let r = item_right (map holds values) (replicate (size - length values) unset) j unset (item_all (size - length values) j unset (omega arith)) in
      h i unset (subst (λ (k : ℕ). slice_get (map holds values ++ replicate (size - length values) unset) k ≡ Some unset) z r)

  pub stack_fills : (from size : ℕ) (values : List Value) → AllMean P words from values → AreUnset words from (length values) size →
      HasSlots P words from (map holds values ++ replicate (size - length values) unset)
  stack_fills from size values h u i slot e = elim (item_cases (map holds values) (replicate (size - length values) unset) i slot e) [
    | inl l ↦ values_fill from values h i slot l
    | inr r ↦
        let a = all_item (size - length values) r.0 unset slot r.2 in
        let m = length-map values holds in
        subst (λ (s : Slot). Fills P (slice_index words (from + i)) s) (sym a.0) (u i (omega (arith, r.1, m)) (omega (arith, r.1, m, a.1)))
  ]

  pub stack_means : (from size : ℕ) (values : List Value) → HasSlots P words from (map holds values ++ replicate (size - length values) unset) →
      AllMean P words from values
  stack_means from size values h i v e =
      h i (holds v) (item_left (map holds values) (replicate (size - length values) unset) i (holds v) (item_map holds values i v e))

  -- from slots to fields and back
  pub fields_of_slots : (from : ℕ) (node : Node) → HasSlots P words from (slots_of node) → HasFields P words from node
  fields_of_slots from (Con tag values) h = slots_mean from values h
  fields_of_slots from (Var v) h = slot_first from (holds v) [] h
  fields_of_slots from (Arr values) h = slots_mean from values h
  fields_of_slots from (Thunk free None) h = (slot_first from unset (map holds free) h, slots_mean (from + 1) free (slots_rest from unset (map holds free) h))
  fields_of_slots from (Thunk free (Some result)) h = slot_first from (holds result) (replicate (length free) unspecified) h
  fields_of_slots from (Weak None) h = h 1 unset refl
  fields_of_slots from (Weak (Some parts)) h = (
    slot_first from (holds parts.key) (holds parts.value ∷ holds parts.finaliser ∷ []) h,
    h 1 (holds parts.value) refl,
    h 2 (holds parts.finaliser) refl,
  )
  fields_of_slots from (Stack size values) h = (stack_means from size values h, slots_unset from (length values) size values refl h)

  three : (from : ℕ) (a b c : Slot) → Fills P (slice_index words from) a → Fills P (slice_index words (from + 1)) b →
      Fills P (slice_index words (from + 2)) c → HasSlots P words from (a ∷ b ∷ c ∷ [])
  three from a b c x y z =
      let two : from + 2 ≡ from + 1 + 1 = omega arith in
      slots_cons from a (b ∷ c ∷ []) x (slots_cons (from + 1) b (c ∷
      []) y (slots_cons (from + 1 + 1) c [] (subst (λ (k : ℕ). Fills P (slice_index words k) c) two z) (slots_none (from + 1 + 1 + 1))))

  pub slots_of_fields : (from : ℕ) (node : Node) → HasFields P words from node → HasSlots P words from (slots_of node)
  slots_of_fields from (Con tag values) h = values_fill from values h
  slots_of_fields from (Var v) h = slots_cons from (holds v) [] h (slots_none (from + 1))
  slots_of_fields from (Arr values) h = values_fill from values h
  slots_of_fields from (Thunk free None) h = slots_cons from unset (map holds free) h.0 (values_fill (from + 1) free h.1)
  slots_of_fields from (Thunk free (Some result)) h = slots_cons from (holds result) (replicate (length free) unspecified) h (slots_unspecified (from + 1) (length free))
  slots_of_fields from (Weak None) h = three from unspecified unset unspecified tt h tt
  slots_of_fields from (Weak (Some parts)) h = three from (holds parts.key) (holds parts.value) (holds parts.finaliser) h.0 h.1 h.2
  slots_of_fields from (Stack size values) h = stack_fills from size values h.0 h.1

  pub slots_of_kept : (from : ℕ) (node : Node) → KeepsFields P words from node → HasSlots P words from (fixed_slots node)
  slots_of_kept from (Con tag values) h = slots_none from
  slots_of_kept from (Var v) h = slots_none from
  slots_of_kept from (Arr values) h = slots_none from
  slots_of_kept from (Thunk free None) h = slots_cons from unspecified (map holds free) tt (values_fill (from + 1) free h)
  slots_of_kept from (Thunk free (Some result)) h = slots_none from
  slots_of_kept from (Weak None) h = slots_none from
  slots_of_kept from (Weak (Some parts)) h = three from (holds parts.key) unspecified (holds parts.finaliser) h.0 tt h.1
  slots_of_kept from (Stack size values) h = slots_none from

  pub free_of_slots : (from : ℕ) (node : Node) → HasSlots P words from (free_slots node) → KeepsFree P words from node
  free_of_slots from (Con tag values) h = tt
  free_of_slots from (Var v) h = tt
  free_of_slots from (Arr values) h = tt
  free_of_slots from (Thunk free None) h = slots_mean (from + 1) free (slots_rest from unspecified (map holds free) h)
  free_of_slots from (Thunk free (Some result)) h = tt
  free_of_slots from (Weak parts) h = tt
  free_of_slots from (Stack size values) h = tt
