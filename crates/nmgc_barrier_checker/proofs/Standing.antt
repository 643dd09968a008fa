-- The fields that two worlds both have, noted position by position.
use Rattle.nmgc_barrier_checker.proofs.Vocabulary.{◌≡◌, ◌<◌, ◌≤◌, ◌+◌, ℕ, List, ◌++◌, ap, arith, Option, Some, None, true, inl, inr, Contains, option_to_list, Contains-append_left, Contains-append_right, Contains-append_cases, cases_eq, Name, World, nothing_in, one_is, contains_option, Field, stands_in}

option_is : (o : Option Field) (f : Field) → Contains (option_to_list o) f → o ≡ Some f
option_is None f c = absurd (nothing_in f c)
option_is (Some g) f c = ap (λ (x : Field). Some x) (one_is g f c)

module _ (snapshot w : World) (name : Name) (first place : ℕ) (fields : List Field) (found : Option Field) where
  abbrev IsSound : List Field → Type 0
  IsSound l = (f : Field) → Contains l f → (stands_in snapshot f ≡ true) × (stands_in w f ≡ true)

  abbrev IsAll : ℕ → List Field → Type 0
  IsAll n l = (f : Field) → f.name ≡ name → first ≤ f.place → f.place < n → stands_in snapshot f ≡ true → stands_in w f ≡ true → Contains l f

  pub noted_sound : IsSound fields → ((f : Field) → found ≡ Some f → (f.name ≡ name) × (f.place ≡ place) × (stands_in snapshot f ≡ true) ×
      (stands_in w f ≡ true)) → IsSound (fields ++ option_to_list found)
  noted_sound s some f c = elim (Contains-append_cases fields (option_to_list found) f c) [
    | inl old ↦ s f old
    | inr new ↦ let k = some f (option_is found f new) in (k.2, k.3)
  ]

  pub noted_all : IsAll place fields → ((f : Field) → f.name ≡ name → f.place ≡ place → stands_in snapshot f ≡ true → stands_in w f ≡ true →
      found ≡ Some f) → IsAll (place + 1) (fields ++ option_to_list found)
  noted_all a all f e le lt then now = elim (cases_eq f.place place) [
    | inl same ↦ Contains-append_right fields (option_to_list found) f (contains_option found f (all f e same then now))
    | inr other ↦ Contains-append_left fields (option_to_list found) f (a f e le (omega (arith, other)) then now)
  ]
