use Rattle.nmgc_graph.proofs.Vocabulary.{◌≡◌, take, closed}
use Rattle.nmgc_graph.proofs.world.World.close_all.Given as goal

abbrev pub invariant-loop-weak : goal.invariant-loop-weak
invariant-loop-weak l = l.self ≡ closed l.initial.self (take l.weak-index l.dead)
