use Rattle.nmgc_barrier_checker.proofs.Judging.{every_event_is_judged}
use Rattle.nmgc_barrier_checker.proofs.laws.every_event_is_judged.Goals as goal

pub returns : goal.returns
returns c = every_event_is_judged
