use Rattle.nmgc_sweep.proofs.Begins.{left_stays, left_is_counted}
use Rattle.nmgc_sweep.proofs.laws.unswept_segments_wait.Goals as goal

pub returns-clause-stays : goal.returns-clause-stays
returns-clause-stays c = left_stays

pub returns-clause-counted : goal.returns-clause-counted
returns-clause-counted c = left_is_counted
