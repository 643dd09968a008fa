use Rattle.nmgc_graph.specs.Waiting.{AreFiled}
use Rattle.nmgc_graph.proofs.world.World.index_weaks.Given as goal

abbrev pub invariant-loop-weak : goal.invariant-loop-weak
invariant-loop-weak l = AreFiled l.self l.weaks l.weak-index l.waiting
