use Rattle.nmgc_heap_tests.proofs.Vocabulary.{ℕ, ◌<◌, subst, arith, Address}
use Rattle.nmgc_heap_tests.proofs.of_minor.walk.check_recorded.Goals as goal

pub returns : goal.returns
returns g c = λ at h.
    let lt = h.1 in
    subst (λ (a : Address). a.0 < c.args.base) h.2 (c.loop-at.invariant h.0 at (omega (arith, lt, c.loop-at-test.false)))
