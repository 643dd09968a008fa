use Rattle.nmgc_collector_laws.specs.laws.Longer.{stops_are_of_longer}
use Rattle.nmgc_collector_laws.proofs.ties.a_stop_is_of_longer_programs.Goals as goal

pub returns : goal.returns
returns c = stops_are_of_longer
