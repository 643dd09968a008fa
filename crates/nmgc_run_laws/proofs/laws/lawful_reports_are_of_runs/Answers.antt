use Rattle.nmgc_run_laws.specs.laws.Crowding.{lawful_are_of_runs}
use Rattle.nmgc_run_laws.proofs.laws.lawful_reports_are_of_runs.Goals as goal

pub returns : goal.returns
returns c = lawful_are_of_runs
