use Rattle.nmgc_weak.proofs.Vocabulary.{◌≡◌, ◌≢◌, ◌⊎◌, ◌↔◌, ◌/◌, ◌%◌, ℕ, inl, inr, sym, subst, arith, IsTrue, SHARED_PLACE, IsMarkedAt}
use Rattle.nmgc_weak.proofs.resolve.is_key_marked.Goals as goal

pub overflow_cast-to : goal.overflow_cast-to
overflow_cast-to c =
    let lt = c.requires.small c.in-Some.at c.in-Some.ensures.some in
    omega (arith, lt)

pub returns-else-to-eq-SHARED_PLACE : goal.returns-else-to-eq-SHARED_PLACE
returns-else-to-eq-SHARED_PLACE c =
    let is = c.in-Some.ensures.some in
    let half : c.args.key / 2 ≡ c.in-Some.at = omega (arith, is) in
    subst (λ (k : ℕ). IsTrue c.is_marked.result ↔ ((c.args.key % 2 ≢ 0) ⊎ ((k ≡ SHARED_PLACE) ⊎ IsMarkedAt c.args.segments.now c.args.epoch k)))
    (sym half) (
      λ t. inr (inr (c.is_marked.ensures.0 t)),
      λ marked. elim marked [
        | inl odd ↦ absurd (omega (arith, is, odd))
        | inr even ↦ elim even [ inl shared ↦ absurd (c.if-to-eq-SHARED_PLACE.false shared) | inr there ↦ c.is_marked.ensures.1 there ]
      ],
    )
