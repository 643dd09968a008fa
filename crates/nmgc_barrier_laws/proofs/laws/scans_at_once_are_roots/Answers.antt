use Rattle.nmgc_barrier_laws.specs.laws.HybridSafe.{at_once}
use Rattle.nmgc_barrier_laws.proofs.laws.scans_at_once_are_roots.Goals as goal

pub returns : goal.returns
returns c = at_once
