-- The number of different names in a list: the length of the sorted list, each name once.
use Rattle.nmgc_barrier_checker.proofs.Vocabulary.{◌≡◌, ◌≢◌, ◌<◌, ◌+◌, ◌-◌, ◌⊎◌, ◌∙◌, ℕ, zero, suc, List, [], ◌∷◌, ◌++◌, length, take, take_more, get_or, refl, sym, ap, subst, arith, inl, inr, Bool, true, false, cond, not, Contains, Name, IsBefore, IsInOrder, is_same_name, tested_same, is_same_name-refl, before_trans, contains_head, contains_tail, contains_cases, nothing_in}
use Rattle.std.specs.{List.Sorted.IsPermutation, Prelude.slice_index_or, Ordering.nat_cmp, Ordering.ordering_then, Ordering.is_lt, declared.cmp.Ordering.Ordering}
use Rattle.std.specs.declared.cmp.Ordering.TheVariants.{Less, Equal, Greater}
use Rattle.std.proofs.lemmas.{Cmp.ranked, List.Sorted.Contains-permutation, List.Sorted.IsPermutation-sym}
use Rattle.nmgc_world_spec.specs.{Reach.Counts, laws.Orders.same_name, laws.Orders.in_order_cons}
use Rattle.nmgc_barrier_checker.specs.Dues.{AreSorted, added, once}

-- of two names in sorted order, the first is before the second, or they are the same
by_order : (a b : Name) (p q : Ordering) → p ≡ nat_cmp b.maker a.maker → q ≡ nat_cmp b.serial a.serial → is_lt (ordering_then p q) ≡ false →
    (a ≡ b) ⊎ IsBefore a b
by_order a b Less q e f h = absurd (cc)
by_order a b Greater q e f h = inr (inl (ranked b.maker a.maker Greater e))
by_order a b Equal Less e f h = absurd (cc)
by_order a b Equal Equal e f h = inl (same_name a b (sym (ranked b.maker a.maker Equal e)) (sym (ranked b.serial a.serial Equal f)))
by_order a b Equal Greater e f h = inr (inr (sym (ranked b.maker a.maker Equal e), ranked b.serial a.serial Greater f))

sorted_first : (x y : Name) (ys : List Name) → AreSorted (x ∷ y ∷ ys) → (x ≡ y) ⊎ IsBefore x y
sorted_first x y ys s = by_order x y (nat_cmp y.maker x.maker) (nat_cmp y.serial x.serial) refl refl (s 0 x (omega arith) (omega arith))

sorted_rest : (x y : Name) (ys : List Name) → AreSorted (x ∷ y ∷ ys) → AreSorted (y ∷ ys)
sorted_rest x y ys s k o low high =
    let e : suc k + 1 ≡ suc (k + 1) = omega arith in
    let here = s (suc k) o (omega arith) (omega (arith, high)) in
    let P : ℕ → Type 0 = λ m. is_lt (ordering_then (nat_cmp (slice_index_or (x ∷ y ∷ ys) m o).maker (slice_index_or (y ∷
    ys) k o).maker) (nat_cmp (slice_index_or (x ∷ y ∷ ys) m o).serial (slice_index_or (y ∷ ys) k o).serial)) ≡ false in
    subst P e here

-- the first of sorted names is before each later name, or the same
least : (x : Name) (xs : List Name) → AreSorted (x ∷ xs) → (n : Name) → Contains xs n → (x ≡ n) ⊎ IsBefore x n
least x [] s n c = absurd (nothing_in n c)
least x (y ∷ ys) s n c = elim (contains_cases y ys n c) [
  | inl e ↦ subst (λ (m : Name). (x ≡ m) ⊎ IsBefore x m) e (sorted_first x y ys s)
  | inr d ↦ elim (sorted_first x y ys s) [
    | inl same ↦ elim (least y ys (sorted_rest x y ys s) n d) [ inl e ↦ inl (same ∙ e) | inr b ↦ inr (subst (λ (m : Name). IsBefore m n) (sym same) b) ]
    | inr before ↦ elim (least y ys (sorted_rest x y ys s) n d) [
      | inl e ↦ inr (subst (λ (m : Name). IsBefore x m) e before)
      | inr b ↦ inr (before_trans x y n before b)
    ]
  ]
]

-- each name is still there once
once_has : (xs : List Name) (n : Name) → Contains xs n → Contains (once xs) n
once_has [] n c = c
once_has (x ∷ []) n c = c
once_has (x ∷ y ∷ ys) n c = by_test (is_same_name x y) refl (λ d. once_has (y ∷ ys) n d)
  where
    by_test : (b : Bool) → is_same_name x y ≡ b → (Contains (y ∷ ys) n → Contains (once (y ∷ ys)) n) →
        Contains (cond b (once (y ∷ ys)) (x ∷ once (y ∷ ys))) n
    by_test true e rest = elim (contains_cases x (y ∷ ys) n c) [
      | inl is ↦ rest (subst (λ (m : Name). Contains (y ∷ ys) m) (sym (tested_same x y e) ∙ is) (contains_head y ys))
      | inr d ↦ rest d
    ]
    by_test false e rest = elim (contains_cases x (y ∷ ys) n c) [
      | inl is ↦ subst (λ (m : Name). Contains (x ∷ once (y ∷ ys)) m) is (contains_head x (once (y ∷ ys)))
      | inr d ↦ contains_tail x (once (y ∷ ys)) n (rest d)
    ]

once_had : (xs : List Name) (n : Name) → Contains (once xs) n → Contains xs n
once_had [] n c = c
once_had (x ∷ []) n c = c
once_had (x ∷ y ∷ ys) n c = by_test (is_same_name x y) c (λ d. once_had (y ∷ ys) n d)
  where
    by_test : (b : Bool) → Contains (cond b (once (y ∷ ys)) (x ∷ once (y ∷ ys))) n → (Contains (once (y ∷ ys)) n → Contains (y ∷ ys) n) →
        Contains (x ∷ y ∷ ys) n
    by_test true d rest = contains_tail x (y ∷ ys) n (rest d)
    by_test false d rest = elim (contains_cases x (once (y ∷ ys)) n d) [
      | inl is ↦ subst (λ (m : Name). Contains (x ∷ y ∷ ys) m) is (contains_head x (y ∷ ys))
      | inr later ↦ contains_tail x (y ∷ ys) n (rest later)
    ]

other : (x y : Name) → is_same_name x y ≡ false → x ≡ y → ⊥
other x y f e = let t : is_same_name x y ≡ true = subst (λ (m : Name). is_same_name x m ≡ true) e (is_same_name-refl x) in
    let bad : true ≡ false = sym t ∙ f in cc

once_ordered : (xs : List Name) → AreSorted xs → IsInOrder (once xs)
once_ordered [] s = tt
once_ordered (x ∷ []) s = tt
once_ordered (x ∷ y ∷ ys) s = by_test (is_same_name x y) refl (once_ordered (y ∷ ys) (sorted_rest x y ys s))
  where
    after : is_same_name x y ≡ false → (n : Name) → Contains (y ∷ ys) n → IsBefore x n
    after e n c = elim (sorted_first x y ys s) [
      | inl same ↦ absurd (other x y e same)
      | inr before ↦ elim (contains_cases y ys n c) [
        | inl is ↦ subst (λ (m : Name). IsBefore x m) is before
        | inr d ↦ elim (least y ys (sorted_rest x y ys s) n d) [
          | inl is ↦ subst (λ (m : Name). IsBefore x m) is before
          | inr b ↦ before_trans x y n before b
        ]
      ]
    ]

    by_test : (b : Bool) → is_same_name x y ≡ b → IsInOrder (once (y ∷ ys)) → IsInOrder (cond b (once (y ∷ ys)) (x ∷ once (y ∷ ys)))
    by_test true e rest = rest
    by_test false e rest = in_order_cons x (once (y ∷ ys)) rest (λ n c. after e n (once_had (y ∷ ys) n c))

-- the different names of a list that a sort put in order
pub counted : (names sorted : List Name) (count : ℕ) → IsPermutation names sorted → AreSorted sorted → count ≡ length (once sorted) →
    Counts (Contains names) count
counted names sorted count moved order is = (
  once sorted,
  record {
    ordered = once_ordered sorted order;
    sound = λ n c. Contains-permutation sorted names n (IsPermutation-sym names sorted moved) (once_had sorted n c);
    complete = λ n c. once_has sorted n (Contains-permutation names sorted n moved c);
  },
  is,
)

-- one more name counts if it is the first, or differs from the name before it
once_one : (xs : List Name) (y x : Name) → length (once ((xs ++ y ∷ []) ++ x ∷ [])) ≡ cond (is_same_name y x) (length (once (xs ++ y ∷ []))) (length (once (xs ++ y ∷ [])) + 1)
once_one [] y x = by_test (is_same_name y x)
  where
    by_test : (b : Bool) → length (cond b (x ∷ []) (y ∷ x ∷ [])) ≡ cond b 1 (1 + 1)
    by_test true = refl
    by_test false = refl
once_one (a ∷ []) y x = by_test (is_same_name a y) (is_same_name y x) (once_one [] y x)
  where
    by_test : (b c : Bool) → length (once (y ∷ x ∷ [])) ≡ cond c 1 (1 + 1) →
        length (cond b (once (y ∷ x ∷ [])) (a ∷ once (y ∷ x ∷ []))) ≡ cond c (length (cond b (y ∷ []) (a ∷ y ∷ []))) (length (cond b (y ∷ []) (a ∷ y ∷ [])) + 1)
    by_test true c e = e
    by_test false true e = ap suc e
    by_test false false e = ap suc e ∙ omega arith
once_one (a ∷ b ∷ xs) y x = by_test (is_same_name a b) (is_same_name y x) (once_one (b ∷ xs) y x)
  where
    by_test : (t c : Bool) →
        length (once (b ∷ ((xs ++ y ∷ []) ++ x ∷ []))) ≡ cond c (length (once (b ∷ (xs ++ y ∷ [])))) (length (once (b ∷ (xs ++ y ∷ []))) + 1) →
        length (cond t (once (b ∷ ((xs ++ y ∷ []) ++ x ∷ []))) (a ∷ once (b ∷ ((xs ++ y ∷ []) ++ x ∷ [])))) ≡
        cond c (length (cond t (once (b ∷ (xs ++ y ∷ []))) (a ∷ once (b ∷ (xs ++ y ∷ [])))))
        (length (cond t (once (b ∷ (xs ++ y ∷ []))) (a ∷ once (b ∷ (xs ++ y ∷ [])))) + 1)
    by_test true c e = e
    by_test false true e = ap suc e
    by_test false false e = ap suc e ∙ omega arith

-- the first names of a list, and one more
two_more : (xs : List Name) (i : ℕ) (d : Name) → suc i < length xs → take (suc i + 1) xs ≡ (take i xs ++ get_or xs i d ∷ []) ++ get_or xs (suc i) d ∷ []
two_more xs i d lt =
    let on : suc i ≡ i + 1 = omega arith in
    take_more xs (suc i) d lt ∙ ap (λ (l : List Name). l ++ get_or xs (suc i) d ∷ []) (ap (λ (n : ℕ). take n xs) on ∙ take_more xs i d (omega (arith, lt)))

pub first_counts : (xs : List Name) → 0 < length xs → length (once (take (0 + 1) xs)) ≡ added true (length (once (take 0 xs)))
first_counts [] lt = absurd (omega (arith, lt))
first_counts (x ∷ xs) lt = refl

pub next_counts : (xs : List Name) (i : ℕ) (d : Name) (b : Bool) → suc i < length xs → is_same_name (get_or xs i d) (get_or xs (suc i) d) ≡ b →
    length (once (take (suc i + 1) xs)) ≡ added (not b) (length (once (take (suc i) xs)))
next_counts xs i d b lt is =
    let y : Name = get_or xs i d in
    let x : Name = get_or xs (suc i) d in
    let on : suc i ≡ i + 1 = omega arith in
    let was : length (once (take i xs ++ y ∷ [])) ≡ length (once (take (suc i) xs)) =
    sym (ap (λ (n : ℕ). length (once (take n xs))) on ∙ ap (λ (l : List Name). length (once l)) (take_more xs i d (omega (arith, lt)))) in
    ap (λ (l : List Name). length (once l)) (two_more xs i d lt) ∙ (once_one (take i xs) y x ∙
    (ap (λ (n : ℕ). cond (is_same_name y x) n (n + 1)) was ∙ by_test (is_same_name y x) b (length (once (take (suc i) xs))) is))
  where
    by_test : (t b : Bool) (n : ℕ) → t ≡ b → cond t n (n + 1) ≡ added (not b) n
    by_test true true n e = refl
    by_test false false n e = refl
    by_test true false n e = absurd (let bad : true ≡ false = e in cc)
    by_test false true n e = absurd (let bad : false ≡ true = e in cc)

pub next_at : (xs : List Name) (place : ℕ) (b : Bool) → place < length xs → place ≢ 0 →
    b ≡ not (is_same_name (get_or xs (place - 1) (record { maker = 0; serial = 0 })) (get_or xs place (record { maker = 0; serial = 0 }))) →
    length (once (take (place + 1) xs)) ≡ added b (length (once (take place xs)))
next_at xs zero b lt ne is = absurd (ne refl)
next_at xs (suc i) b lt ne is =
    let blank : Name = record { maker = 0; serial = 0 } in
    let on : suc i - 1 ≡ i = omega arith in
    next_counts xs i blank _ lt refl ∙ ap (λ (t : Bool). added t (length (once (take (suc i) xs))))
    (sym (is ∙ ap (λ (n : ℕ). not (is_same_name (get_or xs n blank) (get_or xs (suc i) blank))) on))
