use Rattle.nmgc_run_laws.specs.laws.SerialRuns.{serials_are_few}
use Rattle.nmgc_run_laws.proofs.laws.serials_are_few.Goals as goal

pub returns : goal.returns
returns c = serials_are_few
