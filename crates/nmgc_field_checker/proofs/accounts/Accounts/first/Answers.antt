use Rattle.nmgc_field_checker.proofs.{Vocabulary.Contains, Vocabulary.FieldDebt, Vocabulary.IsEarliestIf, Vocabulary.List, Vocabulary.debt_line, Vocabulary.subst, Vocabulary.take, Vocabulary.take_all, Vocabulary.◌∙◌, EarliestLaws.Among, EarliestLaws.earliest_none, EarliestLaws.earliest_plain, EarliestLaws.earliest_take}
use Rattle.nmgc_field_checker.proofs.accounts.Accounts.first.Goals as goal

pub loop-debt-init : goal.loop-debt-init
loop-debt-init c = earliest_none debt_line (λ (d : FieldDebt). Unit {0})

pub loop-debt-preserved : goal.loop-debt-preserved
loop-debt-preserved c =
    earliest_take debt_line (λ (d : FieldDebt). Unit {0}) c.as_slice-debt-items.result.now c.loop-debt.debt-index (record { object = 0; line = 0; number = 0 })
    c.loop-debt.least c.earlier.result c.loop-debt-test.true c.loop-debt.invariant tt c.earlier.ensures

pub returns : goal.returns
returns c =
    earliest_plain debt_line c.args.self.now.debts.items c.loop-debt.least
    (subst (λ (l : List FieldDebt). IsEarliestIf debt_line (Among (λ (d : FieldDebt). Unit {0}) l) c.loop-debt.least)
    (take_all c.loop-debt.debt-index c.as_slice-debt-items.result.now c.loop-debt-test.false ∙ c.as_slice-debt-items.ensures.value)
    c.loop-debt.invariant)
