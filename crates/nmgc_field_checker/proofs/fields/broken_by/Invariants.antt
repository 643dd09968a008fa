use Rattle.nmgc_field_checker.proofs.{Vocabulary.IsBrokenAt, PlaceLaws.AreUpto}
use Rattle.nmgc_field_checker.proofs.fields.broken_by.Given as goal

abbrev pub invariant-loop-at : goal.invariant-loop-at
invariant-loop-at l = AreUpto (IsBrokenAt l.snapshot l.heap l.object l.place l.fields) l.at l.broken
