use Rattle.nmgc_alloc.proofs.Vocabulary.{◌∙◌, ap, subst, sym, nth, Segment, Segments, HasNumber}
use Rattle.nmgc_alloc.proofs.LateLaws.{exists_seen, raw_seen}
use Rattle.nmgc_alloc.proofs.late.Segments.segment.Goals as goal

pub segment-requires : goal.segment-requires
segment-requires c = (exists_seen c.self.inside.late c.self.inside.done c.args.number).1 (subst (λ (s : Segments). HasNumber s c.args.number) (sym c.self.view_is) c.requires)

pub returns : goal.returns
returns c =
    let read = c.segment.ensures in
    let there : HasNumber c.self.inside.done c.args.number = (exists_seen c.self.inside.late c.self.inside.done c.args.number).1
    (subst (λ (s : Segments). HasNumber s c.args.number) (sym c.self.view_is) c.requires) in
    read ∙ raw_seen c.self.inside.late c.self.inside.done c.args.number there ∙
    ap (λ (y : Segments × Segment). let x : Segment = record (nth y.0.segments c.args.number) { state = y.1.state; snap = y.1.snap } in x) (λ i. (c.self.view_is i, sym read i))
