use Rattle.nmgc_world_laws.specs.laws.NewWorlds.{new_is_world}
use Rattle.nmgc_graph.proofs.world.World.new.Goals as goal

pub invariant_of-result : goal.invariant_of-result
invariant_of-result c = rw (c.in_ok-copies.ensures, c.in_ok-mutators.ensures) (new_is_world c.args.mutators c.requires.some c.requires.few)
