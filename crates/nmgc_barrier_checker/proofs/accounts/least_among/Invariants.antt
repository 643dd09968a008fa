use Rattle.nmgc_barrier_checker.proofs.Vocabulary.{take, IsLeastIn, all_debts, unpaid}
use Rattle.nmgc_barrier_checker.proofs.accounts.least_among.Given as goal

abbrev pub invariant-loop-queue : goal.invariant-loop-queue
invariant-loop-queue l = IsLeastIn (unpaid l.marks (all_debts (take l.queue-index l.queues))) l.least
