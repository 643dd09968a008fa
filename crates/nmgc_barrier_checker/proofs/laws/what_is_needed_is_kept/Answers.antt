use Rattle.nmgc_barrier_checker.proofs.Needing.{needed_is_kept}
use Rattle.nmgc_barrier_checker.proofs.laws.what_is_needed_is_kept.Goals as goal

pub returns : goal.returns
returns c = needed_is_kept
