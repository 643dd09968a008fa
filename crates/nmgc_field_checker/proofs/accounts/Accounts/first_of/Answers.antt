use Rattle.nmgc_field_checker.proofs.{Vocabulary.FieldDebt, Vocabulary.IsEarliestIf, Vocabulary.List, Vocabulary.Option, Vocabulary.debt_line, Vocabulary.subst, Vocabulary.sym, Vocabulary.take, Vocabulary.take_all, Vocabulary.ℕ, Vocabulary.◌+◌, Vocabulary.◌∙◌, Vocabulary.◌≡◌, EarliestLaws.Among, EarliestLaws.earliest_none, EarliestLaws.earliest_skip, EarliestLaws.earliest_take}
use Rattle.nmgc_field_checker.proofs.accounts.Accounts.first_of.Goals.{else-debt-number, then-debt-number}
use Rattle.nmgc_field_checker.proofs.accounts.Accounts.first_of.Goals as goal

pub loop-debt-init : goal.loop-debt-init
loop-debt-init c = earliest_none debt_line (λ (d : FieldDebt). d.number ≡ c.args.number)

pub loop-debt-preserved : goal.loop-debt-preserved
loop-debt-preserved c =
    let debts = c.as_slice-debt-items.result.now in
    let i = c.loop-debt.debt-index in
    elim c.if-debt-number.branch [
      | then-debt-number w ↦ subst (λ (o : Option FieldDebt). IsEarliestIf debt_line (Among (λ (d : FieldDebt). d.number ≡ c.args.number) (take (i + 1) debts)) o) (sym w.least-is)
          (earliest_take debt_line (λ (d : FieldDebt). d.number ≡ c.args.number) debts i (record { object = 0; line = 0; number = 0 }) c.loop-debt.least w.earlier.result c.loop-debt-test.true c.loop-debt.invariant
          w.if-debt-number.true w.earlier.ensures)
      | else-debt-number w ↦ subst (λ (o : Option FieldDebt). IsEarliestIf debt_line (Among (λ (d : FieldDebt). d.number ≡ c.args.number) (take (i + 1) debts)) o) (sym w.least-is)
          (earliest_skip debt_line (λ (d : FieldDebt). d.number ≡ c.args.number) debts i (record { object = 0; line = 0; number = 0 }) c.loop-debt.least c.loop-debt-test.true c.loop-debt.invariant w.if-debt-number.false)
    ]

pub returns : goal.returns
returns c =
    subst (λ (l : List FieldDebt). IsEarliestIf debt_line (Among (λ (d : FieldDebt). d.number ≡ c.args.number) l) c.loop-debt.least)
    (take_all c.loop-debt.debt-index c.as_slice-debt-items.result.now c.loop-debt-test.false ∙ c.as_slice-debt-items.ensures.value)
    c.loop-debt.invariant
