use Rattle.nmgc_barrier_checker.proofs.Vocabulary.{subst, IsAgainstIf}
use Rattle.nmgc_barrier_checker.proofs.cycle.Cycle.result_or_why.Goals as goal

pub close_result-requires-clause-none : goal.close_result-requires-clause-none
close_result-requires-clause-none c = (subst (IsAgainstIf c.args.self.now) c.in-None.is c.reason_against_end.ensures).0

pub close_result-requires-clause-taken : goal.close_result-requires-clause-taken
close_result-requires-clause-taken c = (subst (IsAgainstIf c.args.self.now) c.in-None.is c.reason_against_end.ensures).1
