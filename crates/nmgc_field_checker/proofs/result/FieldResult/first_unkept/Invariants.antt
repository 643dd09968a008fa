use Rattle.nmgc_field_checker.proofs.{Vocabulary.Contains, Vocabulary.take, Vocabulary.ℕ, FirstLaws.NoneIn}
use Rattle.nmgc_field_checker.proofs.result.FieldResult.first_unkept.Given as goal

abbrev pub invariant-loop-object : goal.invariant-loop-object
invariant-loop-object l = NoneIn (λ (n : ℕ). Contains l.self.kept.items n → ⊥) (take l.object-index l.objects)
