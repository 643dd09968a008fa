use Rattle.nmgc_graph.proofs.Vocabulary.{take, IsSetOf}
use Rattle.nmgc_graph.proofs.world.World.set_of.Given as goal

abbrev pub invariant-loop-name : goal.invariant-loop-name
invariant-loop-name l = IsSetOf l.self (take l.name-index l.names) l.marks
