use Rattle.nmgc_heap_tests.proofs.Vocabulary.{ℕ, ◌<◌, slice_index, PointsWell}
use Rattle.nmgc_heap_tests.proofs.of_minor.walk.check_words.Given as goal

abbrev pub invariant-loop-word : goal.invariant-loop-word
invariant-loop-word g l = (k : ℕ) → k < l.word-index → PointsWell l.base l.sizes (slice_index l.words k)
