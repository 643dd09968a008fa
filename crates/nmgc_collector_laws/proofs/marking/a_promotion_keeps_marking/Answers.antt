use Rattle.nmgc_collector_laws.proofs.cycles.Keeping.{promotion_keeps_marking}
use Rattle.nmgc_collector_laws.proofs.marking.a_promotion_keeps_marking.Goals as goal

pub returns : goal.returns
returns c = promotion_keeps_marking
