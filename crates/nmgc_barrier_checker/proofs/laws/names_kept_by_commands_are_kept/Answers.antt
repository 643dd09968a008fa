use Rattle.nmgc_barrier_checker.proofs.Needing.{kept_is_marked}
use Rattle.nmgc_barrier_checker.proofs.laws.names_kept_by_commands_are_kept.Goals as goal

pub returns : goal.returns
returns c = kept_is_marked
