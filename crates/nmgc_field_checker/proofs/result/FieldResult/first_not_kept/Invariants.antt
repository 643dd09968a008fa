use Rattle.nmgc_field_checker.proofs.{Vocabulary.IsNotKept, Vocabulary.take, Vocabulary.ℕ, FirstLaws.NoneIn}
use Rattle.nmgc_field_checker.proofs.result.FieldResult.first_not_kept.Given as goal

abbrev pub invariant-loop-object : goal.invariant-loop-object
invariant-loop-object l = NoneIn (IsNotKept l.self) (take l.object-index l.objects)
