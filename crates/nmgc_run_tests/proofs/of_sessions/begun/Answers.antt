use Rattle.nmgc_run_tests.proofs.Rounds.{fits_run}
use Rattle.nmgc_run_tests.proofs.of_sessions.begun.Goals as goal

pub new-requires-clause-fits : goal.new-requires-clause-fits
new-requires-clause-fits c = fits_run c.args.head.now c.requires
