use Rattle.nmgc_run_tests.proofs.Rounds.{fits_run}
use Rattle.nmgc_run_tests.proofs.of_gates.after_two_rounds.Goals as goal

pub stop-requires-clause-limits : goal.stop-requires-clause-limits
stop-requires-clause-limits g c κs within = fits_run c.args.script.now c.requires

pub round-requires-clause-limits : goal.round-requires-clause-limits
round-requires-clause-limits g c κs within = fits_run c.args.script.now c.requires

pub stop-requires-2-clause-limits : goal.stop-requires-2-clause-limits
stop-requires-2-clause-limits g c κs within = fits_run c.args.script.now c.requires

pub round-requires-in-GoOn-2-clause-limits : goal.round-requires-in-GoOn-2-clause-limits
round-requires-in-GoOn-2-clause-limits g c κs within = fits_run c.args.script.now c.requires
