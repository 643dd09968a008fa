use Rattle.nmgc_barrier_checker.proofs.Vocabulary.{subst, IsAgainstIf}
use Rattle.nmgc_barrier_checker.proofs.cycle.Cycle.result_or_why_with.Goals as goal

pub result_if_dead-requires-clause-none : goal.result_if_dead-requires-clause-none
result_if_dead-requires-clause-none c = (subst (IsAgainstIf c.args.self.now) c.in-None.is c.reason_against_end.ensures).0

pub result_if_dead-requires-clause-taken : goal.result_if_dead-requires-clause-taken
result_if_dead-requires-clause-taken c = (subst (IsAgainstIf c.args.self.now) c.in-None.is c.reason_against_end.ensures).1
