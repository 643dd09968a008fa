use Rattle.nmgc_barrier_checker.proofs.Vocabulary.{subst, sym, Contains, Cycle, Watch}
use Rattle.nmgc_barrier_checker.specs.Watching.{IsOwed}
use Rattle.nmgc_barrier_checker.proofs.watch.Watch.may_owe_since.Goals as goal

pub returns-in-Marking : goal.returns-in-Marking
returns-in-Marking c = λ debt o e.
    c.may_owe_since.ensures debt (subst (λ (k : Cycle). Contains k.debts debt) (sym c.cycle.ensures)
    (subst (λ (w : Watch). IsOwed w debt) c.in-Marking.is o)) e
