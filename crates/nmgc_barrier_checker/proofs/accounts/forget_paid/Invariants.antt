use Rattle.nmgc_barrier_checker.proofs.Vocabulary.{◌≡◌, length, Contains, Debt, unpaid}
use Rattle.nmgc_barrier_checker.proofs.accounts.forget_paid.Given as goal

abbrev pub invariant-loop-debt : goal.invariant-loop-debt
invariant-loop-debt l = record {
  same : unpaid l.marks l.debts ≡ unpaid l.marks l.fn.debts;
  fewer : (d : Debt) → Contains l.debts d → Contains l.fn.debts d;
}

abbrev pub decreases-loop-debt : goal.decreases-loop-debt
decreases-loop-debt l = length l.debts
