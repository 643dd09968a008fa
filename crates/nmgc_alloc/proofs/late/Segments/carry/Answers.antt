use Rattle.nmgc_alloc.proofs.Vocabulary.{◌≡◌, ◌∙◌, ap, map, Segments, carried_over}
use Rattle.nmgc_alloc.proofs.late.Segments.carry.Goals as goal

pub returns-clause-value : goal.returns-clause-value
returns-clause-value c =
    let e : c.prepare_late.new.done ≡ c.args.self.now = c.prepare_late.ensures ∙ c.self.view_is in
    c.carry.ensures.value ∙ ap (λ (s : Segments). let t : Segments = record s { segments = map (carried_over c.args.epoch) s.segments } in t) e
