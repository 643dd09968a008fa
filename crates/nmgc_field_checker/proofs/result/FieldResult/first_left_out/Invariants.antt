use Rattle.nmgc_field_checker.proofs.{Vocabulary.IsLeftOut, Vocabulary.ℕ, Vocabulary.◌<◌}
use Rattle.nmgc_field_checker.proofs.result.FieldResult.first_left_out.Given as goal

abbrev pub invariant-loop-object : goal.invariant-loop-object
invariant-loop-object l = (n : ℕ) → n < l.object → IsLeftOut l.self l.objects n → ⊥
