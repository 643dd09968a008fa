use Rattle.nmgc_barrier_laws.specs.laws.HybridSafe.{some_marker_in}
use Rattle.nmgc_barrier_laws.proofs.laws.a_hybrid_marker_is_possible.Goals as goal

pub returns : goal.returns
returns c = some_marker_in
