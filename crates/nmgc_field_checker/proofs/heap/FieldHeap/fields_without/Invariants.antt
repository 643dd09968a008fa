use Rattle.nmgc_field_checker.proofs.{Vocabulary.left_field, Vocabulary.map, Vocabulary.take, Vocabulary.◌≡◌}
use Rattle.nmgc_field_checker.proofs.heap.FieldHeap.fields_without.Given as goal

abbrev pub invariant-loop-field : goal.invariant-loop-field
invariant-loop-field l = l.fields ≡ map (left_field l.gone.items) (take l.field-index l.field-items)
