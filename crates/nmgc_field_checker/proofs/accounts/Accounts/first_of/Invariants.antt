use Rattle.nmgc_field_checker.proofs.{Vocabulary.FieldDebt, Vocabulary.IsEarliestIf, Vocabulary.debt_line, Vocabulary.take, Vocabulary.◌≡◌, EarliestLaws.Among}
use Rattle.nmgc_field_checker.proofs.accounts.Accounts.first_of.Given as goal

abbrev pub invariant-loop-debt : goal.invariant-loop-debt
invariant-loop-debt l = IsEarliestIf debt_line (Among (λ (d : FieldDebt). d.number ≡ l.number) (take l.debt-index l.debt-items)) l.least
