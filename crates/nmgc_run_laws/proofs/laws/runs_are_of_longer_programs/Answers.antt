use Rattle.nmgc_run_laws.specs.laws.Longer.{runs_are_of_longer, rows_are_of_longer}
use Rattle.nmgc_run_laws.proofs.laws.runs_are_of_longer_programs.Goals as goal

pub returns-clause-runs : goal.returns-clause-runs
returns-clause-runs c = runs_are_of_longer

pub returns-clause-rows : goal.returns-clause-rows
returns-clause-rows c = rows_are_of_longer
