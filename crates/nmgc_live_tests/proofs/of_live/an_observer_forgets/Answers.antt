use Rattle.nmgc_run_laws.specs.laws.Crowding.{in_limits_fit}
use Rattle.nmgc_live_tests.proofs.of_live.an_observer_forgets.Goals as goal

pub run_observed-requires-after_bounds : goal.run_observed-requires-after_bounds
run_observed-requires-after_bounds g c κs = in_limits_fit c.in_ok-script.script c.in_ok-script.ensures
