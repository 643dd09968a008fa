use Rattle.nmgc_graph.proofs.Vocabulary.{IsMarked, ListsBefore}
use Rattle.nmgc_graph.proofs.marks.Marks.list_row.Given as goal

abbrev pub invariant-loop-serial : goal.invariant-loop-serial
invariant-loop-serial l = ListsBefore (IsMarked l.self) l.maker l.serial l.names
