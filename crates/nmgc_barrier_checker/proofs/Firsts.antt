-- The first of several names or debts.
use Rattle.nmgc_barrier_checker.proofs.Vocabulary.{◌≡◌, ◌<◌, ◌+◌, ◌⊎◌, ◌∙◌, ℕ, zero, suc, List, [], ◌∷◌, ◌++◌, length, take, drop, get_or, refl, sym, ap, subst, arith, inl, inr, Bool, true, false, false≢true, cases_Bool, cases_lt, cases_eq, Option, Some, None, Contains, Name, Debt, IsBefore, before_trans, not_before_itself, contains_head, contains_tail, contains_cases, nothing_in, one_is, contains_one, Contains-append_left, Contains-append_right, Contains-append_cases}
use Rattle.nmgc_barrier_checker.specs.{First.StandsFirst, First.IsEarlier}

-- ORDERS

pub before_cases : (a b : Name) → IsBefore a b ⊎ (IsBefore a b → ⊥)
before_cases a b = elim (cases_lt a.maker b.maker) [
  | inl lt ↦ inl (inl lt)
  | inr le ↦ elim (cases_eq a.maker b.maker) [
    | inl e ↦ elim (cases_lt a.serial b.serial) [
      | inl lt ↦ inl (inr (e, lt))
      | inr more ↦ inr (λ h. elim h [ inl lt ↦ omega arith | inr p ↦ (let l = p.1 in omega (arith, l)) ])
    ]
    | inr ne ↦ inr (λ h. elim h [ inl lt ↦ omega arith | inr p ↦ ne p.0 ])
  ]
]

pub earlier_trans : (a b c : Debt) → IsEarlier a b → IsEarlier b c → IsEarlier a c
earlier_trans a b c (inl p) (inl q) = inl (omega arith)
earlier_trans a b c (inl p) (inr q) = inl (let e = q.0 in omega (arith, e))
earlier_trans a b c (inr p) (inl q) = inl (let e = p.0 in omega (arith, e))
earlier_trans a b c (inr p) (inr q) = inr (p.0 ∙ q.0, before_trans a.name b.name c.name p.1 q.1)

pub not_earlier_itself : (a : Debt) → IsEarlier a a → ⊥
not_earlier_itself a (inl p) = omega arith
not_earlier_itself a (inr p) = not_before_itself a.name p.1

pub earlier_cases : (a b : Debt) → IsEarlier a b ⊎ (IsEarlier a b → ⊥)
earlier_cases a b = elim (cases_lt a.line b.line) [
  | inl lt ↦ inl (inl lt)
  | inr le ↦ elim (cases_eq a.line b.line) [
    | inl e ↦ elim (before_cases a.name b.name) [
      | inl h ↦ inl (inr (e, h))
      | inr never ↦ inr (λ h. elim h [ inl lt ↦ omega arith | inr p ↦ never p.1 ])
    ]
    | inr ne ↦ inr (λ h. elim h [ inl lt ↦ omega arith | inr p ↦ ne p.0 ])
  ]
]

-- THE FIRST BY AN ORDER

module _ {A : Type 0} (R : A → A → Type 0) (cases : (a b : A) → R a b ⊎ (R a b → ⊥)) (trans : (a b c : A) → R a b → R b c → R a c)
    (never : (a : A) → R a a → ⊥) (test : A → Bool) where
  abbrev pub IsIn : List A → A → Type 0
  IsIn xs x = Contains xs x × (test x ≡ true)

  abbrev pub IsLeast : List A → A → Type 0
  IsLeast xs x = IsIn xs x × ((y : A) → IsIn xs y → R y x → ⊥)

  -- the first of the items that pass, or none passes
  abbrev pub LeastIf : List A → Option A → Type 0
  LeastIf xs None = (x : A) → Contains xs x → test x ≡ false
  LeastIf xs (Some x) = IsLeast xs x

  fails : (x : A) → test x ≡ false → test x ≡ true → ⊥
  fails x f t = false≢true (sym f ∙ t)

  -- one more item, which doesn't pass
  pub skips : (xs : List A) (x : A) (o : Option A) → test x ≡ false → LeastIf xs o → LeastIf (xs ++ x ∷ []) o
  skips xs x None f h = λ y c. elim (Contains-append_cases xs (x ∷ []) y c) [
    | inl old ↦ h y old
    | inr new ↦ subst (λ (z : A). test z ≡ false) (one_is x y new) f
  ]
  skips xs x (Some least) f h = (
    (Contains-append_left xs (x ∷ []) least h.0.0, h.0.1),
    λ y i. elim (Contains-append_cases xs (x ∷ []) y i.0) [
      | inl old ↦ h.1 y (old, i.1)
      | inr new ↦ absurd (fails x f (subst (λ (z : A). test z ≡ true) (sym (one_is x y new)) i.1))
    ],
  )

  -- one more item, which passes, and the earlier one of it and the first so far
  pub joins : (xs : List A) (x e : A) (o : Option A) → test x ≡ true → LeastIf xs o →
      ((l : A) → o ≡ Some l → ((e ≡ l) × (R x l → ⊥)) ⊎ ((e ≡ x) × R x l)) → (o ≡ None → e ≡ x) → LeastIf (xs ++ x ∷ []) (Some e)
  joins xs x e None t h some none = (
    (
      subst (λ (z : A). Contains (xs ++ x ∷ []) z) (sym (none refl)) (Contains-append_right xs (x ∷ []) x (contains_one x)),
      subst (λ (z : A).
          test z ≡ true) (sym (none refl)) t,
    ),
    λ y i before. elim (Contains-append_cases xs (x ∷ []) y i.0) [
      | inl old ↦ fails y (h y old) i.1
      | inr new ↦ never x (subst (λ (z : A). R z x) (sym (one_is x y new)) (subst (λ (z : A). R y z) (none refl) before))
    ],
  )
  joins xs x e (Some l) t h some none = elim (some l refl) [
    | inl p ↦ (
      (subst (λ (z : A). Contains (xs ++ x ∷ []) z) (sym p.0) (Contains-append_left xs (x ∷ []) l h.0.0), subst (λ (z : A). test z ≡ true) (sym p.0) h.0.1),
      λ y i before. elim (Contains-append_cases xs (x ∷ []) y i.0) [
        | inl old ↦ h.1 y (old, i.1) (subst (λ (z : A). R y z) p.0 before)
        | inr new ↦ p.1 (subst (λ (z : A). R z l) (sym (one_is x y new)) (subst (λ (z : A). R y z) p.0 before))
      ],
    )
    | inr p ↦ (
      (
        subst (λ (z : A). Contains (xs ++ x ∷ []) z) (sym p.0) (Contains-append_right xs (x ∷ []) x (contains_one x)),
        subst (λ (z : A).
            test z ≡ true) (sym p.0) t,
      ),
      λ y i before. elim (Contains-append_cases xs (x ∷ []) y i.0) [
        | inl old ↦ h.1 y (old, i.1) (trans y x l (subst (λ (z : A). R y z) p.0 before) p.1)
        | inr new ↦ never x (subst (λ (z : A). R z x) (sym (one_is x y new)) (subst (λ (z : A). R y z) p.0 before))
      ],
    )
  ]

  -- an item that is before each item behind it
  with_head : (x : A) (xs : List A) → test x ≡ true → ((y : A) → IsIn xs y → R y x → ⊥) → IsLeast (x ∷ xs) x
  with_head x xs t least_is = (
    (contains_head x xs, t),
    λ y i before. elim (contains_cases x xs y i.0) [
      | inl e ↦ never x (subst (λ (z : A). R z x) (sym e) before)
      | inr d ↦ least_is y (d, i.1) before
    ],
  )

  pub least : (xs : List A) → ((x : A) × IsLeast xs x) ⊎ ((x : A) → Contains xs x → test x ≡ false)
  least [] = inr (λ x c. absurd (nothing_in x c))
  least (x ∷ xs) = elim (least xs) [
    | inr none ↦ elim (cases_Bool (test x)) [
      | inl t ↦ inl (x, with_head x xs t (λ y i before. fails y (none y i.0) i.1))
      | inr f ↦ inr (λ y c. elim (contains_cases x xs y c) [ inl e ↦ subst (λ (z : A). test z ≡ false) e f | inr d ↦ none y d ])
    ]
    | inl p ↦ elim (cases_Bool (test x)) [
      | inl t ↦ elim (cases x p.0) [
        | inl before ↦ inl (x, with_head x xs t (λ y i b. p.1.1 y i (trans y x p.0 b before)))
        | inr later ↦ inl (
          p.0,
          (
            (contains_tail x xs p.0 p.1.0.0, p.1.0.1),
            λ y i b. elim (contains_cases x xs y i.0) [
              | inl e ↦ later (subst (λ (z : A). R z p.0) (sym e) b)
              | inr d ↦ p.1.1 y (d, i.1) b
            ],
          ),
        )
      ]
      | inr f ↦ inl (
        p.0,
        (
          (contains_tail x xs p.0 p.1.0.0, p.1.0.1),
          λ y i b. elim (contains_cases x xs y i.0) [
            | inl e ↦ fails x f (subst (λ (z : A). test z ≡ true) (sym e) i.1)
            | inr d ↦ p.1.1 y (d, i.1) b
          ],
        ),
      )
    ]
  ]

-- THE FIRST IN A LIST

pub split_at : {A : Type 0} (xs : List A) (i : ℕ) (d : A) → i < length xs → xs ≡ take i xs ++ get_or xs i d ∷ drop (i + 1) xs
split_at [] i d lt = absurd (let l : i < 0 = lt in omega arith)
split_at (x ∷ xs) zero d lt = refl
split_at (x ∷ xs) (suc i) d lt =
    let l : suc i < suc (length xs) = lt in
    let on : suc i + 1 ≡ suc (i + 1) = omega arith in
    ap (λ (l : List _). x ∷ l) (split_at xs i d (omega arith)) ∙ sym (ap (λ (n : ℕ). x ∷ (take i xs ++ get_or xs i d ∷ drop n (x ∷ xs))) on)

module _ (P : Name → Type 0) where
  pub stands_in : (names : List Name) (name : Name) → StandsFirst names P name → Contains names name
  stands_in names name s = subst (λ (l : List Name). Contains l name) (sym s.2) (Contains-append_right s.0 (name ∷ s.1) name (contains_head name s.1))

  pub stands_at : (names : List Name) (i : ℕ) (d : Name) → i < length names → ((n : Name) → Contains (take i names) n → P n → ⊥) → P (get_or names i d) →
      StandsFirst names P (get_or names i d)
  stands_at names i d lt none here = (take i names, drop (i + 1) names, split_at names i d lt, here, none)

  pub stands_head : (x : Name) (xs : List Name) → P x → StandsFirst (x ∷ xs) P x
  stands_head x xs here = ([], xs, refl, here, λ other c. absurd (nothing_in other c))

  pub stands_tail : (x : Name) (xs : List Name) (name : Name) → (P x → ⊥) → StandsFirst xs P name → StandsFirst (x ∷ xs) P name
  stands_tail x xs name fails s = (
    x ∷ s.0,
    s.1,
    ap (λ (l : List Name). x ∷ l) s.2,
    s.3,
    λ other c p. elim (contains_cases x s.0 other c) [ inl e ↦ fails (subst P (sym e) p) | inr d ↦ s.4 other d p ],
  )

  pub stands_by : (Q : Name → Type 0) (names : List Name) (name : Name) → ((n : Name) → P n → Q n) → ((n : Name) → Q n → P n) → StandsFirst names P name →
      StandsFirst names Q name
  stands_by Q names name to of s = (s.0, s.1, s.2, to name s.3, λ other c q. s.4 other c (of other q))

-- the first name in a list that passes a test, or none does
pub first_in : (test : Name → Bool) (xs : List Name) → ((x : Name) × StandsFirst xs (λ n. test n ≡ true) x) ⊎ ((x : Name) → Contains xs x → test x ≡ false)
first_in test [] = inr (λ x c. absurd (nothing_in x c))
first_in test (x ∷ xs) = elim (cases_Bool (test x)) [
  | inl t ↦ inl (x, stands_head (λ n. test n ≡ true) x xs t)
  | inr f ↦ elim (first_in test xs) [
    | inl p ↦ inl (p.0, stands_tail (λ n. test n ≡ true) x xs p.0 (λ t. false≢true (sym f ∙ t)) p.1)
    | inr none ↦ inr (λ y c. elim (contains_cases x xs y c) [ inl e ↦ subst (λ (z : Name). test z ≡ false) e f | inr d ↦ none y d ])
  ]
]
