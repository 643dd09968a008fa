-- Arguments that are passed on in order.
use Rattle.nmgc_arguments.proofs.Vocabulary.{◌≡◌, ◌≤◌, ◌<◌, ℕ, ◌+◌, List, [], ◌∷◌, ◌++◌, length, take, drop, map, refl, arith, true, false, Option, Some, None, inl, inr, get_or, suc, add-one, length-take, take-suc, drop-append-le, map-append, slice_get_cases, IsUtf8-from_is_utf8, IsUtf8, is_utf8, passed_as, IsPassedAt, false_of}

-- the arguments before a position were passed on
abbrev pub ArePassedTo : Option (List (List ℕ)) → ℕ → List (List ℕ) → Type 0
ArePassedTo None place passed = Unit {0}
ArePassedTo (Some arguments) place passed = passed ≡ map passed_as (drop 1 (take place arguments))

pub not_utf8 : (bytes : List ℕ) → (IsUtf8 bytes → ⊥) → is_utf8 bytes ≡ false
not_utf8 bytes none = false_of (is_utf8 bytes) (λ (is : is_utf8 bytes ≡ true). none (IsUtf8-from_is_utf8 bytes is))

-- one more argument was passed on
more : (arguments : List (List ℕ)) (place : ℕ) (argument : List ℕ) → 1 ≤ place → place < length arguments → get_or arguments place argument ≡ argument →
    map passed_as (drop 1 (take (place + 1) arguments)) ≡ map passed_as (drop 1 (take place arguments)) ++ passed_as argument ∷ []
more arguments place argument after within is =
    let one : take (suc place) arguments ≡ take place arguments ++ (get_or arguments place argument ∷ []) = take-suc arguments place argument within in
    let some : 1 ≤ length (take place arguments) = omega (arith, length-take place arguments) in
    rw (add-one, one, is, drop-append-le 1 (take place arguments) (argument ∷ []) some, map-append passed_as (drop 1 (take place arguments)) (argument ∷ [])) refl

pub one_more : (o : Option (List (List ℕ))) (place : ℕ) (argument : List ℕ) (passed : List (List ℕ)) → 1 ≤ place → IsPassedAt o place (Some argument) →
    ArePassedTo o place passed → ArePassedTo o (place + 1) (passed ++ argument ∷ [])
one_more None place argument passed after at so_far = tt
one_more (Some arguments) place argument passed after at so_far =
    elim ((slice_get_cases arguments place).1) [
      | inl found ↦
          let e : Some argument ≡ Some (passed_as found.0) = rw (found.2) at at in
          let same : argument ≡ passed_as found.0 = cc in
          let grown : map passed_as (drop 1 (take (place + 1) arguments)) ≡ map passed_as (drop 1 (take place arguments)) ++ passed_as found.0 ∷ [] =
          more arguments place found.0 after found.1 found.3 in
          cc
      | inr past ↦
          let e : Some argument ≡ None = rw (past.1) at at in
          cc
    ]
