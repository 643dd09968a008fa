use Rattle.nmgc_barrier_checker.proofs.{Vocabulary.[], Vocabulary.REGISTERS, Vocabulary.emptied, RowLaws.rows_stopped}
use Rattle.nmgc_barrier_checker.proofs.watch.Watch.empty_registers.Goals as goal

pub returns-in_default-clause-step : goal.returns-in_default-clause-step
returns-in_default-clause-step c = rows_stopped c.args.line c.args.mutator [] (emptied REGISTERS) c.args.self.now c.in_default.ensures
