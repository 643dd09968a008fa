use Rattle.nmgc_field_checker.proofs.{Vocabulary.IsStoredAt, PlaceLaws.AreUpto}
use Rattle.nmgc_field_checker.proofs.fields.stored_by.Given as goal

abbrev pub invariant-loop-at : goal.invariant-loop-at
invariant-loop-at l = AreUpto (IsStoredAt l.snapshot l.heap l.object l.place l.fields) l.at l.stored
