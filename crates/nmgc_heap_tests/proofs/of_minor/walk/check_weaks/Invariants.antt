use Rattle.nmgc_heap_tests.proofs.Vocabulary.{ℕ, ◌<◌, ◌≤◌, ◌+◌, ◌*◌, slice_index_or, Address, PointsWell}
use Rattle.nmgc_heap_tests.proofs.of_minor.walk.check_weaks.Given as goal

abbrev pub invariant-loop-at : goal.invariant-loop-at
invariant-loop-at g l = (k : ℕ) (d : Address) → k < l.at-index → PointsWell l.base l.sizes (2 * (slice_index_or l.weaks k d).0) ×
    ((slice_index_or l.weaks k d).0 + 5 ≤ l.words)
