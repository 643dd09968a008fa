use Rattle.nmgc_snapshot_laws.specs.laws.Runs.{snapshot_theorem}
use Rattle.nmgc_snapshot_laws.proofs.laws.marking_from_a_snapshot_is_exact.Goals as goal

pub returns : goal.returns
returns c = snapshot_theorem
