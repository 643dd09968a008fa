use Rattle.nmgc_barrier_laws.specs.laws.HybridFinishing.{some_finisher_in}
use Rattle.nmgc_barrier_laws.proofs.laws.a_finished_hybrid_marker_is_possible.Goals as goal

pub returns : goal.returns
returns c = some_finisher_in
