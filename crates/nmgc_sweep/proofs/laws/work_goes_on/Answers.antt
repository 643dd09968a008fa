use Rattle.nmgc_sweep.proofs.Going.{work_goes_on, placing_keeps_waiting}
use Rattle.nmgc_sweep.proofs.laws.work_goes_on.Goals as goal

pub returns-clause-goes_on : goal.returns-clause-goes_on
returns-clause-goes_on c = work_goes_on

pub returns-clause-placing : goal.returns-clause-placing
returns-clause-placing c = placing_keeps_waiting
