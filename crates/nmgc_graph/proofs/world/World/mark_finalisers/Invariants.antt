use Rattle.nmgc_graph.proofs.Vocabulary.{◌≡◌, take, with_values, finalisers_of}
use Rattle.nmgc_graph.proofs.world.World.mark_finalisers.Given as goal

abbrev pub invariant-loop-weak : goal.invariant-loop-weak
invariant-loop-weak l = l.search ≡ with_values l.initial.search (finalisers_of l.self (take l.weak-index l.weaks))
