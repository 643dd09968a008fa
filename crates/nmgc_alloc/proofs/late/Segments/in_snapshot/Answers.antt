use Rattle.nmgc_alloc.proofs.Vocabulary.{◌<◌, ◌↔◌, ◌∙◌, subst, sym, nth, block_count, IsTrue, InSnapshot, with_snapshot, Segment, Segments, HasNumber}
use Rattle.nmgc_alloc.proofs.LateLaws.{exists_seen, raw_seen, snapshot_seen}
use Rattle.nmgc_alloc.proofs.late.Segments.in_snapshot.Goals as goal

pub segment-requires : goal.segment-requires
segment-requires c = (exists_seen c.self.inside.late c.self.inside.done c.args.number).1
    (subst (λ (s : Segments). HasNumber s c.args.number) (sym c.self.view_is) c.requires.exists)

pub in_snapshot_if-requires : goal.in_snapshot_if-requires
in_snapshot_if-requires c =
    let there : HasNumber c.self.inside.done c.args.number = (exists_seen c.self.inside.late c.self.inside.done c.args.number).1
    (subst (λ (s : Segments). HasNumber s c.args.number) (sym c.self.view_is) c.requires.exists) in
    subst (λ (x : Segment). c.args.block < block_count x) (sym (raw_seen c.self.inside.late c.self.inside.done c.args.number there) ∙ sym c.segment.ensures)
    (subst (λ (s : Segments). c.args.block < block_count (nth s.segments c.args.number)) (sym c.self.view_is) c.requires.block)

pub returns : goal.returns
returns c =
    let there : HasNumber c.self.inside.done c.args.number = (exists_seen c.self.inside.late c.self.inside.done c.args.number).1
    (subst (λ (s : Segments). HasNumber s c.args.number) (sym c.self.view_is) c.requires.exists) in
    let known = subst (λ (x : Segment). IsTrue c.in_snapshot_if.result ↔ InSnapshot (with_snapshot c.self.inside.late x) c.args.block) c.segment.ensures
    c.in_snapshot_if.ensures in
    subst (λ (s : Segments). IsTrue c.in_snapshot_if.result ↔ InSnapshot (nth s.segments c.args.number) c.args.block) c.self.view_is
    (snapshot_seen c.self.inside.late c.self.inside.done c.args.number c.args.block c.in_snapshot_if.result c.layout.ensures.sound there known)
