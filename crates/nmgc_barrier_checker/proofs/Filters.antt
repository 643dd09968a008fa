-- The items of filters and maps of lists.
use Rattle.nmgc_barrier_checker.proofs.Vocabulary.{◌≡◌, ◌<◌, ◌≤◌, ◌+◌, ℕ, List, [], ◌∷◌, length, map, take, get_or, subst, sym, Bool, true, inl, inr, take_more, take_all, Contains-append_cases, Contains, filter, cases_Bool, contains_head, contains_tail, contains_cases, nothing_in, one_is}

module _ {A : Type 0} (test : A → Bool) where
  -- an item that passes is in the filtered list
  pub kept_in : (xs : List A) (y : A) → Contains xs y → test y ≡ true → Contains (filter test xs) y
  kept_in [] y c t = absurd (nothing_in y c)
  kept_in (x ∷ xs) y c t = elim (contains_cases x xs y c) [
    | inl e ↦ rw (e, t) (contains_head y (filter test xs))
    | inr d ↦ elim (cases_Bool (test x)) [
      | inl p ↦ rw p (contains_tail x (filter test xs) y (kept_in xs y d t))
      | inr fails ↦ rw fails (kept_in xs y d t)
    ]
  ]

  -- an item of the filtered list passes
  pub in_kept : (xs : List A) (y : A) → Contains (filter test xs) y → Contains xs y × (test y ≡ true)
  in_kept [] y c = absurd (nothing_in y c)
  in_kept (x ∷ xs) y c = elim (cases_Bool (test x)) [
    | inl p ↦ elim (contains_cases x (filter test xs) y (rw p at c)) [
      | inl e ↦ let Q : A → Type 0 = λ z. Contains (x ∷ xs) z × (test z ≡ true) in subst Q e (contains_head x xs, p)
      | inr d ↦ (contains_tail x xs y (in_kept xs y d).0, (in_kept xs y d).1)
    ]
    | inr fails ↦ let d = in_kept xs y (rw fails at c) in (contains_tail x xs y d.0, d.1)
  ]

module _ {A B : Type 0} (f : A → B) where
  pub mapped_in : (xs : List A) (x : A) → Contains xs x → Contains (map f xs) (f x)
  mapped_in [] x c = absurd (nothing_in x c)
  mapped_in (y ∷ xs) x c = elim (contains_cases y xs x c) [
    | inl e ↦ subst (λ (z : A). Contains (f y ∷ map f xs) (f z)) e (contains_head (f y) (map f xs))
    | inr d ↦ contains_tail (f y) (map f xs) (f x) (mapped_in xs x d)
  ]

  pub in_mapped : (xs : List A) (y : B) → Contains (map f xs) y → (x : A) × Contains xs x × (f x ≡ y)
  in_mapped [] y c = absurd (nothing_in y c)
  in_mapped (x ∷ xs) y c = elim (contains_cases (f x) (map f xs) y c) [
    | inl e ↦ (x, contains_head x xs, e)
    | inr d ↦ let p : (z : A) × Contains xs z × (f z ≡ y) = in_mapped xs y d in (p.0, contains_tail x xs p.0 p.1, p.2)
  ]

-- a fact of each item so far
module _ {A : Type 0} (P : A → Type 0) where
  pub each_more : (xs : List A) (i : ℕ) (d : A) → i < length xs → ((x : A) → Contains (take i xs) x → P x) → P (get_or xs i d) → (x : A) →
      Contains (take (i + 1) xs) x → P x
  each_more xs i d lt before now x c = elim (Contains-append_cases (take i xs) (get_or xs i d ∷ []) x (rw (take_more xs i d lt) at c)) [
    | inl old ↦ before x old
    | inr new ↦ subst P (one_is (get_or xs i d) x new) now
  ]

  pub each_all : (xs : List A) (i : ℕ) → length xs ≤ i → ((x : A) → Contains (take i xs) x → P x) → (x : A) → Contains xs x → P x
  each_all xs i le before x c = before x (subst (λ (l : List A). Contains l x) (sym (take_all i xs le)) c)
