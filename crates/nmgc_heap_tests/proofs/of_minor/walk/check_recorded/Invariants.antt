use Rattle.nmgc_heap_tests.proofs.Vocabulary.{ℕ, ◌<◌, slice_index_or, Address}
use Rattle.nmgc_heap_tests.proofs.of_minor.walk.check_recorded.Given as goal

abbrev pub invariant-loop-at : goal.invariant-loop-at
invariant-loop-at g l = (k : ℕ) (d : Address) → k < l.at-index → (slice_index_or l.recorded k d).0 < l.base
