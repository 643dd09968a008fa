-- The item of the least line among the items of a list that have a property.
use Rattle.nmgc_field_checker.proofs.Vocabulary.{Contains, Contains-append_left, Contains-push, Contains-push_cases, IsEarlier, IsEarliestIf, List, None, Option, Some, [], arith, get_or, inl, inr, length, nothing_in, subst, sym, take, take_more, ℕ, ◌++◌, ◌+◌, ◌<◌, ◌∷◌, ◌≤◌}

-- an item of a list with a property
abbrev pub Among : {X : Type 0} → (X → Type 0) → List X → X → Type 0
Among {X} Q xs x = Contains xs x × Q x

module _ {X : Type 0} (line : X → ℕ) (Q : X → Type 0) where
  pub earliest_none : IsEarliestIf line (Among Q []) None
  earliest_none = λ x p. nothing_in x p.0

  -- an item without the property is passed over
  skipped : (xs : List X) (x : X) (o : Option X) → IsEarliestIf line (Among Q xs) o → (Q x → ⊥) → IsEarliestIf line (Among Q (xs ++ x ∷ [])) o
  skipped xs x None e other = λ y p. elim (Contains-push_cases xs x y p.0) [
    | inl old ↦ e y (old, p.1)
    | inr same ↦ other (subst Q (sym same) p.1)
  ]
  skipped xs x (Some a) e other = (
    (Contains-append_left xs (x ∷ []) a e.0.0, e.0.1),
    λ y p. elim (Contains-push_cases xs x y p.0) [
      | inl old ↦ e.1 y (old, p.1)
      | inr same ↦ absurd (other (subst Q (sym same) p.1))
    ],
  )

  pub earliest_skip : (xs : List X) (i : ℕ) (d : X) (o : Option X) → i < length xs → IsEarliestIf line (Among Q (take i xs)) o →
      (Q (get_or xs i d) → ⊥) → IsEarliestIf line (Among Q (take (i + 1) xs)) o
  earliest_skip xs i d o lt e other =
      subst (λ (l : List X). IsEarliestIf line (Among Q l) o) (sym (take_more xs i d lt)) (skipped (take i xs) (get_or xs i d) o e other)

  -- an item with the property is compared
  taken : (xs : List X) (x : X) (o : Option X) (r : X) → IsEarliestIf line (Among Q xs) o → Q x → IsEarlier line x o r →
      IsEarliestIf line (Among Q (xs ++ x ∷ [])) (Some r)
  taken xs x None r e own is = subst (λ (z : X). IsEarliestIf line (Among Q (xs ++ x ∷ [])) (Some z)) (sym is) (
    (Contains-push xs x, own),
    λ y p. elim (Contains-push_cases xs x y p.0) [
      | inl old ↦ absurd (e y (old, p.1))
      | inr same ↦ subst (λ (z : X). line x ≤ line z) same (omega arith)
    ],
  )
  taken xs x (Some a) r e own (inl is) = subst (λ (z : X). IsEarliestIf line (Among Q (xs ++ x ∷ [])) (Some z)) (sym is.0) (
    (Contains-push xs x, own),
    λ y p. elim (Contains-push_cases xs x y p.0) [
      | inl old ↦ let le : line a ≤ line y = e.1 y (old, p.1) in omega (arith, is.1)
      | inr same ↦ subst (λ (z : X). line x ≤ line z) same (omega arith)
    ],
  )
  taken xs x (Some a) r e own (inr is) = subst (λ (z : X). IsEarliestIf line (Among Q (xs ++ x ∷ [])) (Some z)) (sym is.0) (
    (Contains-append_left xs (x ∷ []) a e.0.0, e.0.1),
    λ y p. elim (Contains-push_cases xs x y p.0) [
      | inl old ↦ e.1 y (old, p.1)
      | inr same ↦ subst (λ (z : X). line a ≤ line z) same is.1
    ],
  )

  pub earliest_take : (xs : List X) (i : ℕ) (d : X) (o : Option X) (r : X) → i < length xs → IsEarliestIf line (Among Q (take i xs)) o →
      Q (get_or xs i d) → IsEarlier line (get_or xs i d) o r → IsEarliestIf line (Among Q (take (i + 1) xs)) (Some r)
  earliest_take xs i d o r lt e own is =
      subst (λ (l : List X). IsEarliestIf line (Among Q l) (Some r)) (sym (take_more xs i d lt)) (taken (take i xs) (get_or xs i d) o r e own is)

-- an earliest item of a list
pub earliest_plain : {X : Type 0} (line : X → ℕ) (xs : List X) (o : Option X) → IsEarliestIf line (Among (λ (x : X). Unit {0}) xs) o →
    IsEarliestIf line (Contains xs) o
earliest_plain line xs None e = λ x c. e x (c, tt)
earliest_plain line xs (Some a) e = (e.0.0, λ x c. e.1 x (c, tt))
