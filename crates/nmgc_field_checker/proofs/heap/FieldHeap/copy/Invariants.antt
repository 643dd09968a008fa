use Rattle.nmgc_field_checker.proofs.{Vocabulary.take, Vocabulary.◌≡◌}
use Rattle.nmgc_field_checker.proofs.heap.FieldHeap.copy.Given as goal

abbrev pub invariant-loop-fields : goal.invariant-loop-fields
invariant-loop-fields l = l.objects ≡ take l.fields-index l.fields-items
