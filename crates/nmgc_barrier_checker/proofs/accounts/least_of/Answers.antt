use Rattle.nmgc_barrier_checker.proofs.{Vocabulary.◌++◌, Vocabulary.List, Vocabulary.take, Vocabulary.sym, Vocabulary.subst, Vocabulary.append-nil, Vocabulary.take_all, Vocabulary.Debt, Vocabulary.IsLeastIn, Vocabulary.unpaid, AccountLaws.least_step}
use Rattle.nmgc_barrier_checker.proofs.accounts.least_of.Goals as goal

pub loop-debt-init : goal.loop-debt-init
loop-debt-init c = λ before h. subst (λ (l : List Debt). IsLeastIn l c.args.so_far) (sym (append-nil before)) h

pub loop-debt-preserved : goal.loop-debt-preserved
loop-debt-preserved c = λ before h.
    least_step c.args.marks.now c.args.debts.now c.loop-debt.debt-index _ before c.lesser_unpaid-least.result c.loop-debt-test.true
    (c.lesser_unpaid-least.ensures (before ++ unpaid c.args.marks.now (take c.loop-debt.debt-index c.args.debts.now)) (c.loop-debt.invariant before h))

pub returns : goal.returns
returns c = λ before h. subst (λ (l : List Debt). IsLeastIn (before ++
    unpaid c.args.marks.now l) c.loop-debt.least) (take_all c.loop-debt.debt-index c.args.debts.now c.loop-debt-test.false) (c.loop-debt.invariant before h)
