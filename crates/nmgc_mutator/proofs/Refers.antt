-- The object to which a field word refers, by the address in it: in a segment, or in a nursery.
use Rattle.nmgc_mutator.proofs.Vocabulary.{◌≡◌, ℕ, ◌+◌, ◌*◌, ◌/◌, ◌%◌, ◌<◌, ◌≤◌, [], ◌∷◌, refl, sym, ap, ◌∙◌, arith, inl, inr, Bool, true, false, eqb, leb, ltb, eq-eqb, ne_eqb, and-false, cases_lt, le-leb, lt-leb, lt-ltb, le-ltb, FIRST_PLACE, Layout, nursery_place, owed_word, is_young, is_old, all_pushed}

-- the word of an address
module _ (layout : Layout) (w at : ℕ) (is : w ≡ 2 * at) where
  even : eqb (w % 2) 0 ≡ true
  even = eq-eqb (w % 2) 0 (omega (arith, is))

  half : w / 2 ≡ at
  half = omega (arith, is)

  pub young_at : (base : ℕ) → base ≡ nursery_place layout 0 → leb base at ≡ is_young layout w
  young_at base e = rw (even, half, e) refl

  old_yes : FIRST_PLACE ≤ at → at < nursery_place layout 0 → is_old layout w ≡ true
  old_yes low high =
      let a : leb FIRST_PLACE at ≡ true = le-leb FIRST_PLACE at low in
      let b : leb (at + 1) (nursery_place layout 0) ≡ true = le-leb (at + 1) (nursery_place layout 0) (omega (arith, high)) in
      rw (even, half, a, b) refl

  pub old_low : at < FIRST_PLACE → is_old layout w ≡ false
  old_low low =
      let a : leb FIRST_PLACE at ≡ false = lt-leb FIRST_PLACE at low in
      rw (even, half, a) refl

  old_high : nursery_place layout 0 ≤ at → is_old layout w ≡ false
  old_high high =
      let b : leb (at + 1) (nursery_place layout 0) ≡ false = lt-leb (at + 1) (nursery_place layout 0) (omega (arith, high)) in
      rw (even, half, b) (and-false (leb FIRST_PLACE at))

  pub old_at : (base : ℕ) → base ≡ nursery_place layout 0 → FIRST_PLACE ≤ at → ltb at base ≡ is_old layout w
  old_at base e low = elim (cases_lt at base) [
    | inl lt ↦ lt-ltb at base lt ∙ sym (old_yes low (omega (arith, e, lt)))
    | inr le ↦ le-ltb at base le ∙ sym (old_high (omega (arith, e, le)))
  ]

  -- an object in a segment is below the nurseries
  pub old_below : is_old layout w ≡ true → at < nursery_place layout 0
  old_below old = elim (cases_lt at (nursery_place layout 0)) [
    | inl lt ↦ lt
    | inr le ↦ absurd (let bad : true ≡ false = sym old ∙ old_high le in cc)
  ]

  -- it is the address that is pushed
  pub old_pushed : (b : Bool) → b ≡ true → is_old layout w ≡ true → all_pushed layout (owed_word b w) ≡ at ∷ []
  old_pushed true marking old = rw old (ap (λ n. n ∷ []) half)
  old_pushed false marking old = absurd cc

-- an odd word refers to no object
pub young_odd : (layout : Layout) (w : ℕ) → w % 2 ≡ 1 → is_young layout w ≡ false
young_odd layout w odd = let e : eqb (w % 2) 0 ≡ false = ne_eqb (w % 2) 0 (omega (arith, odd)) in rw e refl

-- a word that refers to no object in a segment is not pushed
pub none_pushed : (layout : Layout) (b : Bool) (w : ℕ) → is_old layout w ≡ false → all_pushed layout (owed_word b w) ≡ []
none_pushed layout true w new = rw new refl
none_pushed layout false w new = refl
