use Rattle.nmgc_world_laws.specs.laws.{Closes.closes_well, Reached.nothing_reachable_is_freed, Reached.nothing_reachable_is_ever_freed, Reached.reachable_is_kept, Reached.reachable_is_ever_kept}
use Rattle.nmgc_world_laws.proofs.laws.nothing_reachable_is_freed.Goals as goal

pub returns : goal.returns
returns c = record {
  closing = closes_well;
  since = nothing_reachable_is_freed;
  run = nothing_reachable_is_ever_freed;
  kept = reachable_is_kept;
  ever_kept = reachable_is_ever_kept;
}
