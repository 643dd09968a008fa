-- The first item of a list that has a property.
use Rattle.nmgc_field_checker.proofs.Vocabulary.{Contains, Contains-push_cases, cases_eq, contains_cases, contains_head, contains_tail, List, StandsFirst, [], ap, drop, drop-cons, get_or, inl, inr, length, nothing_in, subst, suc, sym, take, take-append-drop, take_all, take_more, ℕ, ◌++◌, ◌+◌, ◌<◌, ◌∙◌, ◌∷◌, ◌≡◌, ◌≤◌, ◌⊎◌}

-- no item of a list has a property
abbrev pub NoneIn : (ℕ → Type 0) → List ℕ → Type 0
NoneIn P xs = (item : ℕ) → Contains xs item → P item → ⊥

module _ (P : ℕ → Type 0) (xs : List ℕ) where
  pub none_yet : NoneIn P []
  none_yet = λ item c p. nothing_in item c

  pub none_more : (i d : ℕ) → i < length xs → NoneIn P (take i xs) → (P (get_or xs i d) → ⊥) → NoneIn P (take (i + 1) xs)
  none_more i d lt none other = λ item c p.
      elim (Contains-push_cases (take i xs) (get_or xs i d) item (subst (λ (l : List ℕ). Contains l item) (take_more xs i d lt) c)) [
        | inl old ↦ none item old p
        | inr same ↦ other (subst P (sym same) p)
      ]

  pub none_all : (i : ℕ) → length xs ≤ i → NoneIn P (take i xs) → NoneIn P xs
  none_all i le none = subst (λ (l : List ℕ). NoneIn P l) (take_all i xs le) none

  pub first_here : (i d : ℕ) → i < length xs → NoneIn P (take i xs) → P (get_or xs i d) → StandsFirst xs P (get_or xs i d)
  first_here i d lt none own = record {
    before = take i xs;
    later = drop (suc i) xs;
    items_are = sym (take-append-drop i xs) ∙ ap (λ (l : List ℕ). take i xs ++ l) (drop-cons xs i d lt);
    has = own;
    none = none;
  }

-- each item of a list has a property
abbrev pub AllIn : (ℕ → Type 0) → List ℕ → Type 0
AllIn P xs = (item : ℕ) → Contains xs item → P item

pub all_yet : (P : ℕ → Type 0) → AllIn P []
all_yet P = λ item c. absurd (nothing_in item c)

pub all_more : (P : ℕ → Type 0) (xs : List ℕ) (i d : ℕ) → i < length xs → AllIn P (take i xs) → P (get_or xs i d) → AllIn P (take (i + 1) xs)
all_more P xs i d lt all own = λ item c.
    elim (Contains-push_cases (take i xs) (get_or xs i d) item (subst (λ (l : List ℕ). Contains l item) (take_more xs i d lt) c)) [
      | inl old ↦ all item old
      | inr same ↦ subst P same own
    ]

pub all_all : (P : ℕ → Type 0) (xs : List ℕ) (i : ℕ) → length xs ≤ i → AllIn P (take i xs) → AllIn P xs
all_all P xs i le all = subst (λ (l : List ℕ). AllIn P l) (take_all i xs le) all

-- a number is in a list, or it isn't
pub contains_or : (xs : List ℕ) (n : ℕ) → Contains xs n ⊎ (Contains xs n → ⊥)
contains_or [] n = inr (λ c. nothing_in n c)
contains_or (x ∷ xs) n = elim (cases_eq x n) [
  | inl e ↦ inl (subst (λ (k : ℕ). Contains (x ∷ xs) k) e (contains_head x xs))
  | inr ne ↦ elim (contains_or xs n) [
    | inl c ↦ inl (contains_tail x xs n c)
    | inr none ↦ inr (λ c. elim (contains_cases x xs n c) [ inl e ↦ ne e | inr d ↦ none d ])
  ]
]
