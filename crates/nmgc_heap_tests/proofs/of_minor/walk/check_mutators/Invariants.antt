use Rattle.nmgc_heap_tests.proofs.Vocabulary.{ℕ, ◌<◌, slice_index_or, Mutator, PointsWellAll}
use Rattle.nmgc_heap_tests.proofs.of_minor.walk.check_mutators.Given as goal

abbrev pub invariant-loop-mutator : goal.invariant-loop-mutator
invariant-loop-mutator g l =
    (k : ℕ) (d : Mutator) → k < l.mutator-index → PointsWellAll l.base l.sizes l.words (slice_index_or l.mutators k d)
