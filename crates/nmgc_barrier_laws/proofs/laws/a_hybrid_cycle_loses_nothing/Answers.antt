use Rattle.nmgc_barrier_laws.specs.laws.HybridSafe.{hybrid_safety}
use Rattle.nmgc_barrier_laws.proofs.laws.a_hybrid_cycle_loses_nothing.Goals as goal

pub returns : goal.returns
returns c = hybrid_safety
