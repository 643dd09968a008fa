-- Lemmas that crates above need too.
use Rattle.std.specs.Prelude.{◌≡◌, ◌∷◌, ◌+◌}
use Rattle.nmgc_weak.specs.laws.Vocabulary.{List, [], map, refl, ap, arith, inl, inr, ℕ, Contains, slice_index, contains_head, contains_tail, contains_cases, Name, Place, OldWeak, places_of, names_of, place_at, finaliser_place}

-- the names in the addresses of a list are the names of the list
pub names_same : (list : List OldWeak) → map (λ (p : Place). p.name) (places_of list) ≡ names_of list
names_same [] = refl
names_same (w ∷ ws) = ap (λ (l : List Name). w.weak ∷ l) (names_same ws)

pub of_place : (list : List OldWeak) (p : Place) → Contains (places_of list) p → (w : OldWeak) × Contains list w × (place_at w ≡ p)
of_place [] p c = absurd (omega (arith, c.1))
of_place (x ∷ xs) p c = elim (contains_cases (place_at x) (places_of xs) p c) [
  | inl e ↦ (x, contains_head x xs, e)
  | inr d ↦ let r = of_place xs p d in (r.0, contains_tail x xs r.0 r.1, r.2)
]

pub finaliser_is : (words now : List ℕ) (at w : ℕ) → now ≡ words → w ≡ slice_index now (at + 4) → w ≡ slice_index words (finaliser_place at)
finaliser_is words now at w same e = cc (e, same, let z : at + 4 ≡ finaliser_place at = omega arith in z)
