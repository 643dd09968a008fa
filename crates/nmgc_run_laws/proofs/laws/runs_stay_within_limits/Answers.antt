use Rattle.nmgc_run_laws.specs.laws.Limits.{scripts_have_good_plans, states_are_within, rounds_are_within}
use Rattle.nmgc_run_laws.proofs.laws.runs_stay_within_limits.Goals as goal

pub returns-clause-scripts : goal.returns-clause-scripts
returns-clause-scripts c = scripts_have_good_plans

pub returns-clause-states : goal.returns-clause-states
returns-clause-states c = states_are_within

pub returns-clause-rounds : goal.returns-clause-rounds
returns-clause-rounds c = rounds_are_within
