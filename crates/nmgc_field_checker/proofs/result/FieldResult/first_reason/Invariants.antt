use Rattle.nmgc_field_checker.proofs.{Vocabulary.MayGo, Vocabulary.take, FirstLaws.AllIn}
use Rattle.nmgc_field_checker.proofs.result.FieldResult.first_reason.Given as goal

abbrev pub invariant-loop-object : goal.invariant-loop-object
invariant-loop-object l = AllIn (MayGo l.self) (take l.object-index l.objects)
