use Rattle.nmgc_heap_tests.proofs.Vocabulary.{◌≡◌, List, [], length, ap, subst, ◌∙◌, arith, inl, inr, length-set, Contains, Name, nothing_in, OldWeak}
use Rattle.nmgc_heap_tests.proofs.of_weak.list_in_order.Goals as goal

pub add-requires-2-clause-new : goal.add-requires-2-clause-new
add-requires-2-clause-new g c = λ other k same.
    let empty : c.reserve.new.self.list ≡ [] = c.reserve.ensures.list ∙ c.new-weaks.ensures.list in
    elim ((c.add.ensures.list other).0 k) [
      | inl old ↦ nothing_in other (subst (λ (l : List OldWeak). Contains l other) empty old)
      | inr e ↦
          let a : other.weak.maker ≡ 0 = ap (λ (n : Name). n.maker) same in
          let b : other.weak.maker ≡ 1 = ap (λ (w : OldWeak). w.weak.maker) e in
          omega arith
    ]

pub leave-requires : goal.leave-requires
leave-requires g c = λ weak k.
    let empty : c.reserve.new.self.list ≡ [] = c.reserve.ensures.list ∙ c.new-weaks.ensures.list in
    let many : length c.in_ok-words.words.items ≡ 48 = (let e = c.in_ok-words.ensures.len in omega (arith, e)) in
    let long = length-set c.in_ok-words.words.items 35 0 in
    elim ((c.add-2.ensures.list weak).0 k) [
      | inl before ↦ elim ((c.add.ensures.list weak).0 before) [
        | inl old ↦ absurd (nothing_in weak (subst (λ (l : List OldWeak). Contains l weak) empty old))
        | inr e ↦ let a : weak.at.0 ≡ 32 = ap (λ (w : OldWeak). w.at.0) e in omega arith
      ]
      | inr e ↦ let a : weak.at.0 ≡ 40 = ap (λ (w : OldWeak). w.at.0) e in omega arith
    ]
