use Rattle.nmgc_barrier_checker.proofs.{Vocabulary.◌∙◌, AccountLaws.may_owe}
use Rattle.nmgc_barrier_checker.proofs.cycle.Cycle.may_owe_since.Goals as goal

pub returns : goal.returns
returns c = rw (← c.self.view_is) (λ debt o e. c.may_have_debt_of_line.ensures ∙
    may_owe c.self.inside.snapshot c.self.inside.remembered.set c.self.inside.accounts c.args.line debt c.self.invariant.accounts o e)
