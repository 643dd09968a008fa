use Rattle.nmgc_barrier_checker.proofs.cycle.Cycle.first_debt.Goals as goal

pub returns : goal.returns
returns c = rw (← c.self.view_is) c.least_unpaid.ensures
