use Rattle.nmgc_alloc.proofs.Vocabulary.{◌<◌, ◌∙◌, ap, subst, sym, nth, block_count, block_place, Layout, Segment, Segments, HasNumber, IsBlockAt}
use Rattle.nmgc_alloc.proofs.LateLaws.{exists_seen, raw_seen, layout_seen, block_seen, free_back}
use Rattle.nmgc_alloc.proofs.late.Segments.place_of.Goals as goal

pub place_of-requires-clause-exists : goal.place_of-requires-clause-exists
place_of-requires-clause-exists c = (exists_seen c.self.inside.late c.self.inside.done c.args.number).1
    (subst (λ (s : Segments). HasNumber s c.args.number) (sym c.self.view_is) c.requires.exists)

pub place_of-requires-clause-block : goal.place_of-requires-clause-block
place_of-requires-clause-block c =
    let there : HasNumber c.self.inside.done c.args.number = (exists_seen c.self.inside.late c.self.inside.done c.args.number).1
    (subst (λ (s : Segments). HasNumber s c.args.number) (sym c.self.view_is) c.requires.exists) in
    subst (λ (x : Segment). c.args.block < block_count x) (sym (raw_seen c.self.inside.late c.self.inside.done c.args.number there))
    (subst (λ (s : Segments). c.args.block < block_count (nth s.segments c.args.number)) (sym c.self.view_is) c.requires.block)

pub returns-clause-place : goal.returns-clause-place
returns-clause-place c =
    let there : HasNumber c.self.inside.done c.args.number = (exists_seen c.self.inside.late c.self.inside.done c.args.number).1
    (subst (λ (s : Segments). HasNumber s c.args.number) (sym c.self.view_is) c.requires.exists) in
    c.place_of.ensures.place ∙
    ap (λ (y : Layout × Segment). block_place y.0 c.args.number y.1.class c.args.block) (λ i. (
      sym (layout_seen c.self.inside.late c.self.inside.done) i,
      raw_seen c.self.inside.late c.self.inside.done c.args.number there i,
    )) ∙
    ap (λ (s : Segments). block_place s.layout c.args.number (nth s.segments c.args.number).class c.args.block) c.self.view_is

pub returns-clause-begins : goal.returns-clause-begins
returns-clause-begins c = λ used.
    let there : HasNumber c.self.inside.done c.args.number = (exists_seen c.self.inside.late c.self.inside.done c.args.number).1
    (subst (λ (s : Segments). HasNumber s c.args.number) (sym c.self.view_is) c.requires.exists) in
    let begins = c.place_of.ensures.begins (λ free. used (ap (λ (s : Segments). (nth s.segments c.args.number).state) (sym c.self.view_is) ∙
    free_back c.self.inside.late c.self.inside.done c.args.number there free)) in
    subst (λ (s : Segments). IsBlockAt s c.args.number c.args.block c.place_of.result.0) c.self.view_is
    ((block_seen c.self.inside.late c.self.inside.done c.args.number c.args.block c.place_of.result.0).0 begins)
