use Rattle.nmgc_field_checker.proofs.{Vocabulary.◌∙◌, CycleLaws.cycle_forgotten, CycleLaws.running_same, CycleLaws.same_debts, EndLaws.oldest_is}
use Rattle.nmgc_field_checker.proofs.cycle.FieldCycle.first_debt.Goals as goal

pub invariant_of-self : goal.invariant_of-self
invariant_of-self c = cycle_forgotten c.self.inside.snapshot c.self.inside.roots c.self.inside.remembered c.self.inside.accounts c.self.inside.opened c.self.inside.stores c.self.invariant c.forget.new.self c.forget.ensures.debts c.forget.ensures.latest

pub returns-clause-same : goal.returns-clause-same
returns-clause-same c = running_same c.self.inside.snapshot c.self.inside.roots c.self.inside.remembered c.self.inside.accounts c.self.inside.opened c.self.inside.stores c.self.invariant c.self.inside.heap c.self.inside.unscanned c.forget.new.self (same_debts c.self.inside.snapshot c.self.inside.roots c.self.inside.remembered c.self.inside.accounts c.self.inside.opened c.self.inside.stores c.self.invariant c.forget.new.self c.forget.ensures.debts c.forget.ensures.latest) ∙ c.self.view_is

pub returns-clause-debt : goal.returns-clause-debt
returns-clause-debt c = rw (← c.self.view_is) (oldest_is c.self.inside.heap c.self.inside.snapshot c.self.inside.unscanned c.self.inside.roots c.self.inside.remembered c.self.inside.accounts c.self.inside.opened c.self.inside.stores c.forget.new.self.debts.items c.first.result c.forget.ensures.debts c.first.ensures)
