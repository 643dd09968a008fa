use Rattle.std.proofs.Common.{◌∙◌, sym}
use Rattle.nmgc_barrier_checker.proofs.AccountLaws.{least_paid, least_unpaid}
use Rattle.nmgc_barrier_checker.proofs.accounts.lesser_unpaid.Goals as goal

pub returns-then-contains : goal.returns-then-contains
returns-then-contains c = λ before h. least_paid c.args.marks.now before c.args.so_far c.args.debt (sym c.contains.ensures ∙ c.if-contains.true) h

pub returns : goal.returns
returns c = λ before h. least_unpaid c.args.marks.now before c.args.so_far c.args.debt c.earlier_debt.result (sym c.contains.ensures ∙
    c.if-contains.false) h c.earlier_debt.ensures.some c.earlier_debt.ensures.none
