use Rattle.nmgc_alloc.proofs.Vocabulary.{eqb-true, ◌≡◌, ◌∙◌, IsTrue, sym, subst, nth, Segment, State, Current, Active, Filled, IsMarked, carried_in, carried_over}
use Rattle.nmgc_alloc.proofs.CarryingLaws.{other_mark, other_state}
use Rattle.nmgc_alloc.proofs.carrying.Segments.is_marked_if_carried.Goals as goal

pub returns-else-epoch-late : goal.returns-else-epoch-late
returns-else-epoch-late c =
    let x : Segment = nth c.args.done.now.segments c.args.number in
    let not : IsMarked (carried_over c.args.late x) c.args.epoch c.args.block → ⊥ =
    other_state c.args.late c.args.epoch x c.args.block c.requires.late c.requires.epoch c.if-epoch-late.false c.state.result (sym c.state.ensures) c.in-Current.is in
    ((λ t. absurd (c.if-epoch-late.false (eqb-true c.args.epoch c.args.late t))), (λ m. absurd (not m)))
