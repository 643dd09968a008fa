use Rattle.nmgc_run_laws.specs.laws.Ends.{ends_are_stops}
use Rattle.nmgc_run_laws.proofs.laws.ends_are_stops.Goals as goal

pub returns : goal.returns
returns c = ends_are_stops
