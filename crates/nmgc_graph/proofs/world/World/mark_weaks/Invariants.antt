use Rattle.nmgc_graph.proofs.Vocabulary.{◌≡◌, take, with_weaks}
use Rattle.nmgc_graph.proofs.world.World.mark_weaks.Given as goal

abbrev pub invariant-loop-weak : goal.invariant-loop-weak
invariant-loop-weak l = l.search ≡ with_weaks l.self l.initial.search (take l.weak-index l.weaks)
