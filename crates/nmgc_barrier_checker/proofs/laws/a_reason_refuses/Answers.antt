use Rattle.nmgc_barrier_checker.proofs.Reasons.{reasons_refuse}
use Rattle.nmgc_barrier_checker.proofs.laws.a_reason_refuses.Goals as goal

pub returns : goal.returns
returns c = reasons_refuse
