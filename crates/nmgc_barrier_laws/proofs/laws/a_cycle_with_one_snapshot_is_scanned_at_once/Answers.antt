use Rattle.nmgc_barrier_laws.specs.laws.AtOnce.{one_snapshot}
use Rattle.nmgc_barrier_laws.proofs.laws.a_cycle_with_one_snapshot_is_scanned_at_once.Goals as goal

pub returns : goal.returns
returns c = one_snapshot
