-- A step of the loop that makes room in the lists of the mutators.
use Rattle.nmgc_cycle.proofs.Vocabulary.{ℕ, zero, suc, ◌≡◌, ◌∷◌, ◌+◌, ◌<◌, ◌≤◌, List, [], length, get_or, slice_index_or, inl, inr, sym, ap, subst, ◌∙◌, arith, slice_set, cases_lt, get_or_default, get_or-set_same, get_or-set_other, Mutator, Reserves, HasLists, most_at, Some, slice_get}

-- a fact of the new item and of all before it is one of all up to it
pub up_to : {A : Type 0} (P : ℕ → A → Type 0) (xs : List A) (n : ℕ) (x d : A) → n < length xs → (k : ℕ) → k < n + 1 →
    (k < n → P k (slice_index_or xs k d)) → P n x → P k (slice_index_or (slice_set xs n x) k d)
up_to P xs n x d lt k le before own = elim (cases_lt k n) [
  | inl less ↦ subst (P k) (sym (get_or-set_other xs n k x d (λ (e : k ≡ n). omega (arith, e, less)))) (before less)
  | inr more ↦
      let here : k ≡ n = omega (arith, le, more) in
      subst (λ (i : ℕ). P i (slice_index_or (slice_set xs n x) i d)) (sym here) (subst (P n) (sym (get_or-set_same xs n x d lt)) own)
]

-- the most further commands of a program that is there
pub most_there : {P : Type 0} (most : P → ℕ) (programs : List P) (k : ℕ) (p : P) → slice_get programs k ≡ Some p → most_at most programs k ≡ most p
most_there most [] k p e = absurd cc
most_there most (q ∷ programs) zero p e = let same : q ≡ p = cc in ap most same
most_there most (q ∷ programs) (suc k) p e = most_there most programs k p e

-- lists with room for more notes
pub lists_for : (few many : ℕ) (m : Mutator) → few ≤ many → HasLists many m → HasLists few m
lists_for few many m le h = record {
  replies = (let a = h.replies in omega (arith, le, a));
  recorded = (let a = h.recorded in omega (arith, le, a));
  updrem = (let a = h.updrem in omega (arith, le, a));
  young_weaks = (let a = h.young_weaks in omega (arith, le, a));
  finalised = (let a = h.finalised in omega (arith, le, a));
}

module _ (was now : List Mutator) (n : ℕ) (m next : Mutator) (lt : n < length was) (count : length now ≡ length was) where
  pub kept_more : ((k : ℕ) (d : Mutator) → k < n → k < length was → Reserves (slice_index_or was k d) (slice_index_or now k d)) →
      ((k : ℕ) (d : Mutator) → n ≤ k → slice_index_or now k d ≡ slice_index_or was k d) → Reserves (get_or now n m) next → (k : ℕ) (d : Mutator) →
      k < n + 1 → k < length was → Reserves (slice_index_or was k d) (slice_index_or (slice_set now n next) k d)
  kept_more before after own k d le here =
      let there : n < length now = omega (arith, lt, count) in
      let old : get_or now n m ≡ slice_index_or was n d = get_or_default now n m d there ∙ after n d (omega arith) in
      up_to (λ (i : ℕ) (x : Mutator). Reserves (slice_index_or was i d) x) now n next d there k le (λ less.
      before k d less here) (subst (λ (x : Mutator). Reserves x next) old own)

  pub room_more : (count_at : ℕ → ℕ) → ((k : ℕ) (d : Mutator) → k < n → k < length was → HasLists (count_at k) (slice_index_or now k d)) →
      HasLists (count_at n) next → (k : ℕ) (d : Mutator) → k < n + 1 → k < length was → HasLists (count_at k) (slice_index_or (slice_set now n next) k d)
  room_more count_at before own k d le here = up_to (λ (i : ℕ) (x : Mutator). HasLists (count_at i) x) now n next d (omega (
    arith,
    lt,
    count,
  )) k le (λ less. before k d less here) own

  pub after_more : ((k : ℕ) (d : Mutator) → n ≤ k → slice_index_or now k d ≡ slice_index_or was k d) → (k : ℕ) (d : Mutator) → n + 1 ≤ k →
      slice_index_or (slice_set now n next) k d ≡ slice_index_or was k d
  after_more after k d more = get_or-set_other now n k next d (λ (e : k ≡ n). omega (arith, e, more)) ∙ after k d (omega (arith, more))
