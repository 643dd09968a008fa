use Rattle.nmgc_heap_tests.proofs.Vocabulary.{ℕ, ◌<◌, ◌∙◌, List, subst, arith, below_more, slice_index_or, get_or_default, Mutator, PointsWellAll}
use Rattle.nmgc_heap_tests.proofs.of_minor.walk.check_mutators.Goals as goal

pub loop-mutator-preserved : goal.loop-mutator-preserved
loop-mutator-preserved g c = λ k d less.
    let ms : List Mutator = c.args.mutators.now in
    let n = c.loop-mutator.mutator-index in
    let m : Mutator = c.mutator-item.result in
    let here = subst (λ (x : Mutator). PointsWellAll c.args.base c.args.sizes.now c.args.words x)
    (c.mutator-item.is ∙ get_or_default ms n m d c.loop-mutator-test.true) c.check_mutator.ensures in
    below_more (λ (i : ℕ). PointsWellAll c.args.base c.args.sizes.now c.args.words (slice_index_or ms i d)) n
    (λ i before. c.loop-mutator.invariant i d before) here k less

pub returns : goal.returns
returns g c = λ m h.
    let lt = h.1 in
    subst (λ (x : Mutator). PointsWellAll c.args.base c.args.sizes.now c.args.words x) h.2
    (c.loop-mutator.invariant h.0 m (omega (arith, lt, c.loop-mutator-test.false)))
