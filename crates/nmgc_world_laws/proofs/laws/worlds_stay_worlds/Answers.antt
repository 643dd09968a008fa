use Rattle.nmgc_world_laws.specs.laws.{NewWorlds.new_is_world, WorldSteps.step_keeps_world, LiveRows.world_after, Deaths.closed_world}
use Rattle.nmgc_world_laws.proofs.laws.worlds_stay_worlds.Goals as goal

pub returns : goal.returns
returns c = record { new = new_is_world; step = step_keeps_world; rows = world_after; closing = closed_world }
