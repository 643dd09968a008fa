use Rattle.nmgc_graph.proofs.{Vocabulary.sym, Vocabulary.◌∙◌, Vocabulary.false≢true, Vocabulary.IsMarked, Vocabulary.lists_more, Vocabulary.lists_same, Vocabulary.marks_listed, marks.Marks.list_row.Goals.then-marked+in_ok-push, marks.Marks.list_row.Goals.else-marked}
use Rattle.nmgc_graph.proofs.marks.Marks.list_row.Goals as goal

pub loop-serial-preserved : goal.loop-serial-preserved
loop-serial-preserved c = elim c.if-marked.branch [
  | then-marked+in_ok-push w ↦
      rw (w.names-is, w.in_ok-push.ensures.ok) (lists_more (IsMarked c.args.self.now) c.args.maker c.loop-serial.serial c.loop-serial.names
      (rw c.row-marked-items.ensures at w.if-marked.true) c.loop-serial.invariant)
  | else-marked w ↦
      rw w.names-is (lists_same (IsMarked c.args.self.now) c.args.maker c.loop-serial.serial c.loop-serial.names (λ e.
      false≢true (sym (rw c.row-marked-items.ensures at w.if-marked.false) ∙ e)) c.loop-serial.invariant)
]

pub returns : goal.returns
returns c = marks_listed c.args.self.now c.args.maker c.loop-serial.serial c.loop-serial.names
    (rw c.row-marked-items.ensures at c.loop-serial-test.false) c.loop-serial.invariant
