use Rattle.nmgc_heap_tests.proofs.Vocabulary.{◌≡◌, take, nurseries_of}
use Rattle.nmgc_heap_tests.proofs.of_minor.heap.nurseries.Given as goal

abbrev pub invariant-loop-mutator : goal.invariant-loop-mutator
invariant-loop-mutator l = l.nurseries.items ≡ nurseries_of (take l.mutator-index l.mutators)
