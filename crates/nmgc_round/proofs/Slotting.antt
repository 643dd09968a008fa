-- Lists of slots, when the top changes.
use Rattle.nmgc_round.proofs.Vocabulary.{◌≡◌, ◌≢◌, ◌⊎◌, inl, inr, ℕ, zero, suc, ◌+◌, ◌-◌, ◌<◌, ◌≤◌, List, [], ◌∷◌, ◌++◌, length, take, set, refl, ap, ◌∙◌, arith, slice_index, Some, get_or-set_same, get_or-set_other, slice_get, cases_eq, slice_get_within, Value, without_last, last_of, Place, Means, AllMean, ListMeans, AreUnset, item_cases, item_left}

-- past the end there is only 0
pub past : (ws : List ℕ) (i : ℕ) → length ws ≤ i → slice_index ws i ≡ 0
past [] i le = refl
past (w ∷ ws) zero le = absurd (omega arith)
past (w ∷ ws) (suc i) le = past ws i (omega arith)

-- a list that isn't empty has a last item
pub last_apart : (values : List Value) → (values ≡ []) ⊎ ((front : List Value) × (v : Value) × (values ≡ front ++ v ∷ []) ×
    (without_last values ≡ front) × (last_of values ≡ Some v))
last_apart [] = inl refl
last_apart (x ∷ []) = inr ([], x, refl, refl, refl)
last_apart (x ∷ y ∷ values) = elim (last_apart (y ∷ values)) [
  | inl e ↦ absurd cc
  | inr h ↦
      let n : length (x ∷ y ∷ values) - 1 ≡ suc (length (y ∷ values) - 1) = omega arith in
      inr (
        x ∷ h.0,
        h.1,
        ap (λ (l : List Value). x ∷ l) h.2,
        cc (n, h.3),
        cc (n, h.4),
      )
]

module _ (P : Place → Type 0) where
  pub as_long : (ws : List ℕ) (vs : List Value) → ListMeans P ws vs → length ws ≡ length vs
  as_long [] [] h = refl
  as_long [] (v ∷ vs) h = absurd h
  as_long (w ∷ ws) [] h = absurd h
  as_long (w ∷ ws) (v ∷ vs) h = ap suc (as_long ws vs h.1)

  pub list_at : (ws : List ℕ) (vs : List Value) (i : ℕ) (v : Value) → ListMeans P ws vs → slice_get vs i ≡ Some v → Means P (slice_index ws i) v
  list_at [] [] i v h e = absurd cc
  list_at [] (y ∷ vs) i v h e = absurd h
  list_at (w ∷ ws) [] i v h e = absurd h
  list_at (w ∷ ws) (y ∷ vs) zero v h e = let same : y ≡ v = cc in rw same at h.0
  list_at (w ∷ ws) (y ∷ vs) (suc i) v h e = list_at ws vs i v h.1 e

  -- all words but the last represent all values but the last
  pub front_means : (ws : List ℕ) (front : List Value) (v : Value) → ListMeans P ws (front ++ v ∷ []) → ListMeans P (take (length ws - 1) ws) front
  front_means [] [] v h = absurd h
  front_means [] (x ∷ front) v h = absurd h
  front_means (w ∷ []) [] v h = tt
  front_means (w ∷ u ∷ ws) [] v h = absurd h.1
  front_means (w ∷ []) (x ∷ []) v h = absurd h.1
  front_means (w ∷ []) (x ∷ y ∷ front) v h = absurd h.1
  front_means (w ∷ u ∷ ws) (x ∷ front) v h =
      let n : length (w ∷ u ∷ ws) - 1 ≡ suc (length (u ∷ ws) - 1) = omega arith in
      rw n (h.0, front_means (u ∷ ws) front v h.1)

  -- one more value, in the next slot
  pub all_pushed : (words : List ℕ) (from w : ℕ) (values : List Value) (v : Value) → from + length values < length words →
      AllMean P words from values → Means P w v → AllMean P (set words (from + length values) w) from (values ++ v ∷ [])
  all_pushed words from w values v inside h m i x e = elim (item_cases values (v ∷ []) i x e) [
    | inl l ↦
        let lt = slice_get_within values i x l in
        let far : from + i ≢ from + length values = λ k. omega arith in
        rw (get_or-set_other words (from + length values) (from + i) w 0 far) (h i x l)
    | inr r ↦
        let lt = slice_get_within (v ∷ []) r.0 x r.2 in
        let none : r.0 ≡ 0 = omega (arith, lt) in
        let is : Some v ≡ Some x = rw none at r.2 in
        let same : v ≡ x = cc in
        let at : from + i ≡ from + length values = omega (arith, r.1) in
        rw (← same) (rw at (rw (get_or-set_same words (from + length values) w 0 inside) m))
  ]

  -- all values but the last, when the last slot changes
  pub all_popped : (words : List ℕ) (from w : ℕ) (front : List Value) (v : Value) → AllMean P words from (front ++ v ∷ []) →
      AllMean P (set words (from + length front) w) from front
  all_popped words from w front v h i x e =
      let lt = slice_get_within front i x e in
      let far : from + i ≢ from + length front = λ k. omega arith in
      rw (get_or-set_other words (from + length front) (from + i) w 0 far) (h i x (item_left front (v ∷ []) i x e))

-- slots past the top stay unset
pub unset_pushed : (words : List ℕ) (from w depth size : ℕ) → AreUnset words from depth size → AreUnset (set words (from + depth) w) from (depth + 1) size
unset_pushed words from w depth size h i lo hi = get_or-set_other words (from + depth) (from + i) w 0 (λ k. omega arith) ∙ h i (omega arith) hi

-- and one more slot at the top
pub unset_popped : (words : List ℕ) (from depth size : ℕ) → from + depth < length words → AreUnset words from (depth + 1) size →
    AreUnset (set words (from + depth) 0) from depth size
unset_popped words from depth size inside h i lo hi = elim (cases_eq i depth) [
  | inl e ↦ cc (e, get_or-set_same words (from + depth) 0 0 inside)
  | inr ne ↦ get_or-set_other words (from + depth) (from + i) 0 0 (λ k. ne (omega arith)) ∙ h i (omega arith) hi
]
