use Rattle.nmgc_sweep.proofs.Begins.{closing_begins_work}
use Rattle.nmgc_sweep.proofs.laws.closing_begins_work.Goals as goal

pub returns : goal.returns
returns c = closing_begins_work
