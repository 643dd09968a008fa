use Rattle.nmgc_graph.proofs.Vocabulary.{IsMarked, ListsBefore}
use Rattle.nmgc_graph.proofs.marks.Marks.names.Given as goal

abbrev pub invariant-loop-maker : goal.invariant-loop-maker
invariant-loop-maker l = ListsBefore (IsMarked l.self) l.maker 0 l.names
