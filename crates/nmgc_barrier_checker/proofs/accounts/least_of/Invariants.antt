use Rattle.nmgc_barrier_checker.proofs.Vocabulary.{◌++◌, List, take, Debt, IsLeastIn, unpaid}
use Rattle.nmgc_barrier_checker.proofs.accounts.least_of.Given as goal

abbrev pub invariant-loop-debt : goal.invariant-loop-debt
invariant-loop-debt l = (before : List Debt) → IsLeastIn before l.fn.so_far → IsLeastIn (before ++ unpaid l.marks (take l.debt-index l.debts)) l.least
