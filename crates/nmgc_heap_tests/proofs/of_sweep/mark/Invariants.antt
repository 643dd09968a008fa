use Rattle.std.proofs.Common.{◌≡◌}
use Rattle.nmgc_heap_tests.proofs.of_sweep.mark.Given as goal

abbrev pub invariant-loop-index : goal.invariant-loop-index
invariant-loop-index g l = l.segments.layout ≡ l.initial.segments.layout
