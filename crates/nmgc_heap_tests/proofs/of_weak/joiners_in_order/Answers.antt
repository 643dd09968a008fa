use Rattle.nmgc_heap_tests.proofs.Vocabulary.{◌≡◌, List, [], ◌∷◌, ap, subst, ◌∙◌, arith, inl, inr, Contains, Name, contains_cases, nothing_in, OldWeak}
use Rattle.nmgc_heap_tests.proofs.of_weak.joiners_in_order.Goals as goal

abbrev before : OldWeak
before = record { weak = record { maker = 0; serial = 7 }; at = record { 0 = 40 } }

abbrev after : OldWeak
after = record { weak = record { maker = 1; serial = 5 }; at = record { 0 = 48 } }

pub add_all-requires-clause-new : goal.add_all-requires-clause-new
add_all-requires-clause-new g c = λ one other a b same.
    let empty : c.reserve.new.self.list ≡ [] = c.reserve.ensures.list ∙ c.new-weaks.ensures.list in
    elim ((c.add.ensures.list other).0 b) [
      | inl old ↦ nothing_in other (subst (λ (l : List OldWeak). Contains l other) empty old)
      | inr e ↦
          let makers : other.weak.maker ≡ one.weak.maker = ap (λ (n : Name). n.maker) same in
          let serials : other.weak.serial ≡ one.weak.serial = ap (λ (n : Name). n.serial) same in
          let maker : other.weak.maker ≡ 1 = ap (λ (w : OldWeak). w.weak.maker) e in
          let serial : other.weak.serial ≡ 2 = ap (λ (w : OldWeak). w.weak.serial) e in
          let joiners : c.as_slice.result.now ≡ before ∷ after ∷ [] = c.as_slice.ensures in
          elim (contains_cases before (after ∷ []) one (subst (λ (l : List OldWeak). Contains l one) joiners a)) [
            | inl f ↦ let first : 0 ≡ one.weak.maker = ap (λ (w : OldWeak). w.weak.maker) f in omega arith
            | inr d ↦ elim (contains_cases after [] one d) [
              | inl f ↦ let third : 5 ≡ one.weak.serial = ap (λ (w : OldWeak). w.weak.serial) f in omega arith
              | inr none ↦ nothing_in one none
            ]
          ]
    ]
