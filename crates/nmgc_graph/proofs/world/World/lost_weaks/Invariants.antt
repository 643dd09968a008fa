use Rattle.nmgc_graph.proofs.Vocabulary.{◌≡◌, take, filter, is_lost, parts_of}
use Rattle.nmgc_graph.proofs.world.World.lost_weaks.Given as goal

abbrev pub invariant-loop-weak : goal.invariant-loop-weak
invariant-loop-weak l = l.names ≡ filter (λ weak. is_lost l.search.marks l.set-inside.rows weak (parts_of l.self weak)) (take l.weak-index l.weaks)
