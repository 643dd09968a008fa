use Rattle.nmgc_alloc.proofs.{Vocabulary.◌<◌, Vocabulary.◌↔◌, Vocabulary.◌∙◌, Vocabulary.ap, Vocabulary.subst, Vocabulary.sym, Vocabulary.set, Vocabulary.IsTrue, Vocabulary.Segment, Vocabulary.block_count, Vocabulary.nth, Vocabulary.Segments, Vocabulary.IsToMark, Vocabulary.marked_if, Vocabulary.with_snapshot, MarkLaws.marked_invariant, MarkLaws.read_is}
use Rattle.nmgc_alloc.proofs.segments.Segments.try_mark.Goals as goal

pub mark_if_unmarked-requires-clause-block : goal.mark_if_unmarked-requires-clause-block
mark_if_unmarked-requires-clause-block c =
    let is = c.snapshot_if.ensures.value ∙
    ap (with_snapshot c.args.late) (read_is _ _ c.args.number _ c.self.view_is c.requires.exists c.index_mut-segment.ensures.value) in
    subst (λ (x : Segment). c.args.block < block_count x) (sym is) c.requires.block

pub invariant_of-self : goal.invariant_of-self
invariant_of-self c =
    marked_invariant _ _ _ c.args.epoch c.args.block _ c.mark_if_unmarked.result c.args.late _ _ _ _ _ c.self.view_is c.self.invariant c.requires.exists
    c.index_mut-segment.ensures.value c.snapshot_if.ensures.value c.snapshot_if.ensures.sound c.mark_if_unmarked.ensures.value c.mark_if_unmarked.ensures.sound

pub returns-clause-answer : goal.returns-clause-answer
returns-clause-answer c =
    let is = c.snapshot_if.ensures.value ∙
    ap (with_snapshot c.args.late) (read_is _ _ c.args.number _ c.self.view_is c.requires.exists c.index_mut-segment.ensures.value) in
    subst (λ (x : Segment). IsTrue c.mark_if_unmarked.result ↔ IsToMark x c.args.epoch c.args.block) is c.mark_if_unmarked.ensures.answer

pub returns-clause-value : goal.returns-clause-value
returns-clause-value c =
    let is = c.snapshot_if.ensures.value ∙
    ap (with_snapshot c.args.late) (read_is _ _ c.args.number _ c.self.view_is c.requires.exists c.index_mut-segment.ensures.value) in
    let seen : Segments = record { layout = c.self.inside.layout; segments = c.self.inside.segments.items; fresh = c.self.inside.fresh } in
    let marked : Segment = marked_if c.mark_if_unmarked.result c.args.epoch c.args.block (with_snapshot c.args.late (nth c.args.self.now.segments c.args.number)) in
    ap (λ (t : Segment). let s : Segments = record seen { segments = set seen.segments c.args.number t } in s)
    (c.mark_if_unmarked.ensures.value ∙ ap (marked_if c.mark_if_unmarked.result c.args.epoch c.args.block) is) ∙
    ap (λ (s : Segments). let t : Segments = record s { segments = set s.segments c.args.number marked } in t) c.self.view_is

pub returns-clause-sound : goal.returns-clause-sound
returns-clause-sound c =
    (marked_invariant _ _ _ c.args.epoch c.args.block _ c.mark_if_unmarked.result c.args.late _ _ _ _ _ c.self.view_is c.self.invariant c.requires.exists
    c.index_mut-segment.ensures.value c.snapshot_if.ensures.value c.snapshot_if.ensures.sound c.mark_if_unmarked.ensures.value c.mark_if_unmarked.ensures.sound).0
