use Rattle.nmgc_heap_tests.proofs.Vocabulary.{ℕ, ◌≤◌, ◌+◌, ◌*◌, subst, arith, Address, PointsWell}
use Rattle.nmgc_heap_tests.proofs.of_minor.walk.check_weaks.Goals as goal

pub returns : goal.returns
returns g c = λ at h.
    let lt = h.1 in
    subst (λ (a : Address). PointsWell c.args.base c.args.sizes.now (2 * a.0) × (a.0 + 5 ≤ c.args.words)) h.2
    (c.loop-at.invariant h.0 at (omega (arith, lt, c.loop-at-test.false)))
