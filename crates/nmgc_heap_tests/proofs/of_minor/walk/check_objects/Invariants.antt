use Rattle.nmgc_heap_tests.proofs.Vocabulary.{ℕ, ◌<◌, ◌≤◌, ◌+◌, ◌≢◌, slice_index, AreMade}
use Rattle.nmgc_heap_tests.proofs.of_minor.walk.check_objects.Given as goal

abbrev pub invariant-loop-k : goal.invariant-loop-k
invariant-loop-k g l = record {
  made : AreMade l.layout l.base l.words l.sizes l.nurseries l.k;
  next : (j : ℕ) → j < l.k → slice_index l.sizes j ≢ 0 → j + slice_index l.sizes j ≤ l.free;
}
