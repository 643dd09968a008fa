use Rattle.nmgc_barrier_laws.specs.laws.HybridBeside.{hybrid_joint}
use Rattle.nmgc_barrier_laws.proofs.laws.a_hybrid_marker_is_exact.Goals as goal

pub returns : goal.returns
returns c = hybrid_joint
