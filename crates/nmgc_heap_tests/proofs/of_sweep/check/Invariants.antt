use Rattle.nmgc_heap_tests.proofs.Vocabulary.{HaveEntries, AreLeft}
use Rattle.nmgc_sweep.specs.NameTable.{padded}
use Rattle.nmgc_heap_tests.proofs.of_sweep.check.Given as goal

abbrev pub invariant-loop-name : goal.invariant-loop-name
invariant-loop-name g l = HaveEntries l.segments.layout l.names

abbrev pub invariant-loop-turn : goal.invariant-loop-turn
invariant-loop-turn g l = AreLeft l.segments l.sweeper × HaveEntries l.segments.layout (padded l.names-inside.limit l.names-inside.entries.items)
