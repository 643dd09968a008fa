use Rattle.std.proofs.{Common.List, Common.get_or, lemmas.List.Elements.Contains-get_or}
use Rattle.std.specs.Prelude.{All}
use Rattle.nmgc_world_spec.specs.{declared.value.Name.Name, World.World, Reach.IsAliveWeak, Reach.IsDead, Reach.Lists}
use Rattle.nmgc_low_tests.proofs.of_graph.reach_tests.close.Goals as goal

-- the dead weak pointers are alive so far, so the world may be closed with them
dead_alive : (w : World) (extra finalised names : List Name) → Lists (IsDead w extra finalised) names → All (IsAliveWeak w) names
dead_alive w extra finalised names l = λ k d below. let is = l.sound (get_or names k d) (Contains-get_or names k d below) in (is.parts, is.alive)

pub close-requires-clause-alive : goal.close-requires-clause-alive
close-requires-clause-alive g c = rw c.items.ensures (dead_alive c.args.world.now _ _ c.in_ok-dead.dead c.in_ok-dead.ensures)
