use Rattle.nmgc_alloc.proofs.Vocabulary.{◌<◌, ◌↔◌, ◌∙◌, subst, sym, nth, block_count, IsTrue, IsMarked, Segment, Segments, HasNumber}
use Rattle.nmgc_alloc.proofs.LateLaws.{exists_seen, raw_seen}
use Rattle.nmgc_alloc.proofs.late.Segments.is_marked.Goals as goal

pub segment-requires : goal.segment-requires
segment-requires c = (exists_seen c.self.inside.late c.self.inside.done c.args.number).1
    (subst (λ (s : Segments). HasNumber s c.args.number) (sym c.self.view_is) c.requires.exists)

pub is_marked-requires-clause-block : goal.is_marked-requires-clause-block
is_marked-requires-clause-block c =
    let there : HasNumber c.self.inside.done c.args.number = (exists_seen c.self.inside.late c.self.inside.done c.args.number).1
    (subst (λ (s : Segments). HasNumber s c.args.number) (sym c.self.view_is) c.requires.exists) in
    subst (λ (x : Segment). c.args.block < block_count x) (sym (raw_seen c.self.inside.late c.self.inside.done c.args.number there) ∙ sym c.segment.ensures)
    (subst (λ (s : Segments). c.args.block < block_count (nth s.segments c.args.number)) (sym c.self.view_is) c.requires.block)

pub returns : goal.returns
returns c =
    let there : HasNumber c.self.inside.done c.args.number = (exists_seen c.self.inside.late c.self.inside.done c.args.number).1
    (subst (λ (s : Segments). HasNumber s c.args.number) (sym c.self.view_is) c.requires.exists) in
    subst (λ (s : Segments). IsTrue c.is_marked.result ↔ IsMarked (nth s.segments c.args.number) c.args.epoch c.args.block) c.self.view_is
    (subst (λ (x : Segment). IsTrue c.is_marked.result ↔ IsMarked x c.args.epoch c.args.block)
    (c.segment.ensures ∙ raw_seen c.self.inside.late c.self.inside.done c.args.number there) c.is_marked.ensures)
