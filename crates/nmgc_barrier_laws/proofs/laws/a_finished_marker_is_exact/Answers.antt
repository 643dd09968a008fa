use Rattle.nmgc_barrier_laws.specs.laws.Beside.{joint_theorem}
use Rattle.nmgc_barrier_laws.proofs.laws.a_finished_marker_is_exact.Goals as goal

pub returns : goal.returns
returns c = joint_theorem
