use Rattle.nmgc_field_checker.proofs.{Vocabulary.AreKnown, Vocabulary.take, Vocabulary.values_in}
use Rattle.nmgc_field_checker.proofs.watch.first_missing.Given as goal

abbrev pub invariant-loop-field : goal.invariant-loop-field
invariant-loop-field l = AreKnown l.heap (values_in (take l.field-index l.fields))
