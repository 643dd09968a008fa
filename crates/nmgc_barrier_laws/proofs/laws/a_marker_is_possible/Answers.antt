use Rattle.nmgc_barrier_laws.specs.laws.Beside.{some_marker}
use Rattle.nmgc_barrier_laws.proofs.laws.a_marker_is_possible.Goals as goal

pub returns : goal.returns
returns c = some_marker
