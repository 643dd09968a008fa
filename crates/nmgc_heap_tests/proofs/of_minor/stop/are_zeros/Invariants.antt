use Rattle.std.proofs.Common.{ℕ, ◌≡◌, ◌<◌, ◌≤◌, slice_index}
use Rattle.nmgc_heap_tests.proofs.of_minor.stop.are_zeros.Given as goal

abbrev pub invariant-loop-at : goal.invariant-loop-at
invariant-loop-at l = (k : ℕ) → 19 ≤ k → k < l.at → slice_index l.words k ≡ 0
