use Rattle.nmgc_cycle.proofs.weaks.join_all.Goals as goal

pub returns-clause-joins : goal.returns-clause-joins
returns-clause-joins c = record { ordered = c.add_all.ensures.ordered; list = c.add_all.ensures.list }
