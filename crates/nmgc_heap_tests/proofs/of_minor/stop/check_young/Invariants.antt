use Rattle.std.proofs.Common.{ℕ, ◌≡◌, ◌<◌, ◌+◌, slice_index}
use Rattle.nmgc_heap_tests.proofs.of_minor.stop.check_young.Given as goal

abbrev pub invariant-loop-i : goal.invariant-loop-i
invariant-loop-i g l = (k : ℕ) → k < l.i → slice_index l.words (3 + k) ≡ 1
