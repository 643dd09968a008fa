use Rattle.nmgc_barrier_checker.proofs.{Vocabulary.◌++◌, Vocabulary.◌∙◌, Vocabulary.List, Vocabulary.take, Vocabulary.subst, Vocabulary.take_all, Vocabulary.Debt, Vocabulary.IsLeastIn, Vocabulary.all_debts, Vocabulary.unpaid, AccountLaws.least_queue}
use Rattle.nmgc_barrier_checker.proofs.accounts.least_among.Goals as goal

pub loop-queue-preserved : goal.loop-queue-preserved
loop-queue-preserved c =
    least_queue c.args.marks.now c.args.queues.now c.loop-queue.queue-index c.queue-item.result c.least_of-least.result c.loop-queue-test.true
    (subst (λ (l : List Debt). IsLeastIn (unpaid c.args.marks.now (all_debts (take c.loop-queue.queue-index c.args.queues.now)) ++
    unpaid c.args.marks.now l) c.least_of-least.result) (c.items.ensures ∙ c.queue-item.is)
    (c.least_of-least.ensures (unpaid c.args.marks.now (all_debts (take c.loop-queue.queue-index c.args.queues.now))) c.loop-queue.invariant))

pub returns : goal.returns
returns c = subst (λ (l : List (List Debt)).
    IsLeastIn (unpaid c.args.marks.now (all_debts l)) c.loop-queue.least)
    (take_all c.loop-queue.queue-index c.args.queues.now c.loop-queue-test.false) c.loop-queue.invariant
