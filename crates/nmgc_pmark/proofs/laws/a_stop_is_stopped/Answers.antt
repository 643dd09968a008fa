use Rattle.nmgc_pmark.proofs.Stops.{stops_are_stopped}
use Rattle.nmgc_pmark.proofs.laws.a_stop_is_stopped.Goals as goal

pub returns : goal.returns
returns c = stops_are_stopped
