-- The object that a store removes from a field, or puts into it.
use Rattle.nmgc_field_checker.proofs.Vocabulary.{Has, IsBrokenAt, IsStoredAt, List, None, Option, Refers, Some, World, ap, slice_get, some_is, sym, ℕ, ◌+◌, ◌∙◌, ◌≡◌, ◌≢◌, ◌↔◌}

module _ (snapshot w : World) (object place at : ℕ) (fields : List (Option ℕ)) (field : Option ℕ) (here : slice_get fields at ≡ Some field) where
  pub broken_is : (target : ℕ) (r : Option ℕ) → ((n : ℕ) → (Some target ≡ Some n) ↔ Refers w object (place + at) n) →
      ((n : ℕ) → (r ≡ Some n) ↔ ((n ≡ target) × (field ≢ Some n) × Has snapshot n × Refers snapshot object (place + at) n)) →
      (n : ℕ) → (r ≡ Some n) ↔ IsBrokenAt snapshot w object place fields at n
  broken_is target r stood chosen n = (
    λ e. let p = (chosen n).0 e in record {
      new = field;
      new_is = here;
      other = p.1;
      there = p.2;
      stood = (stood n).0 (ap (λ (k : ℕ). Some k) (sym p.0));
      then = p.3;
    },
    λ b. (chosen n).1 (
      sym (some_is target n ((stood n).1 b.stood)),
      λ e. b.other (some_is b.new field (sym b.new_is ∙ here) ∙ e),
      b.there,
      b.then,
    ),
  )

  pub stored_is : (target : ℕ) (r : Option ℕ) → field ≡ Some target →
      ((n : ℕ) → (r ≡ Some n) ↔ ((n ≡ target) × Has snapshot n × (Refers w object (place + at) n → ⊥))) →
      (n : ℕ) → (r ≡ Some n) ↔ IsStoredAt snapshot w object place fields at n
  stored_is target r is chosen n = (
    λ e. let p = (chosen n).0 e in record {
      new_is = here ∙ ap (λ (o : Option ℕ). Some o) (is ∙ ap (λ (k : ℕ). Some k) (sym p.0));
      there = p.1;
      other = p.2;
    },
    λ s. (chosen n).1 (
      some_is n target (some_is (Some n) (Some target) (sym s.new_is ∙ here ∙ ap (λ (o : Option ℕ). Some o) is)),
      s.there,
      s.other,
    ),
  )

  -- a field without an object loses none, and gets none
  pub broken_none : (r : Option ℕ) → r ≡ None → ((n : ℕ) → (r ≡ Some n) ↔ Refers w object (place + at) n) →
      (n : ℕ) → (r ≡ Some n) ↔ IsBrokenAt snapshot w object place fields at n
  broken_none r none stood n = (λ e. absurd (let bad : None ≡ Some n = sym none ∙ e in cc), λ b. (stood n).1 b.stood)

  pub stored_none : field ≡ None → (r : Option ℕ) → r ≡ None → (n : ℕ) → (r ≡ Some n) ↔ IsStoredAt snapshot w object place fields at n
  stored_none empty r none n = (
    λ e. absurd (let bad : None ≡ Some n = sym none ∙ e in cc),
    λ s. absurd (let bad : None ≡ Some n = some_is None (Some n) (sym (here ∙ ap (λ (o : Option ℕ). Some o) empty) ∙ s.new_is) in cc),
  )
