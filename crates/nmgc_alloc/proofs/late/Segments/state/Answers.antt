use Rattle.nmgc_alloc.proofs.Vocabulary.{◌∙◌, ap, subst, sym, nth, State, prepared_state, Segment, Segments, HasNumber}
use Rattle.std.specs.Prelude.{if◌then◌else◌}
use Rattle.nmgc_alloc.proofs.LateLaws.{exists_seen, state_seen}
use Rattle.nmgc_alloc.proofs.late.Segments.state.Goals as goal

pub segment-requires : goal.segment-requires
segment-requires c = (exists_seen c.self.inside.late c.self.inside.done c.args.number).1 (subst (λ (s : Segments). HasNumber s c.args.number) (sym c.self.view_is) c.requires)

pub returns : goal.returns
returns c =
    let there : HasNumber c.self.inside.done c.args.number = (exists_seen c.self.inside.late c.self.inside.done c.args.number).1
    (subst (λ (s : Segments). HasNumber s c.args.number) (sym c.self.view_is) c.requires) in
    c.state_if.ensures ∙
    ap (λ (s : State). if c.self.inside.late then prepared_state s else s) (c.state.ensures ∙ ap (λ (x : Segment). x.state) c.segment.ensures) ∙
    state_seen c.self.inside.late c.self.inside.done c.args.number there ∙ ap (λ (s : Segments). (nth s.segments c.args.number).state) c.self.view_is
