use Rattle.nmgc_barrier_laws.specs.laws.Finishing.{some_finisher}
use Rattle.nmgc_barrier_laws.proofs.laws.a_finished_marker_is_possible.Goals as goal

pub returns : goal.returns
returns c = some_finisher
