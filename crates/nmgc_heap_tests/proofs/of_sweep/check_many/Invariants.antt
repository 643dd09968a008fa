use Rattle.nmgc_sweep.specs.NameTable.{HaveEntries}
use Rattle.nmgc_heap_tests.proofs.of_sweep.check_many.Given as goal

abbrev pub invariant-loop-serial : goal.invariant-loop-serial
invariant-loop-serial g l = HaveEntries l.segments.layout l.names
