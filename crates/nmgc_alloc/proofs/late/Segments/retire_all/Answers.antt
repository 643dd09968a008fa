use Rattle.nmgc_alloc.proofs.Vocabulary.{◌≡◌, ◌∙◌, ap, map, Segments, retired}
use Rattle.nmgc_alloc.proofs.late.Segments.retire_all.Goals as goal

pub returns-clause-value : goal.returns-clause-value
returns-clause-value c =
    let e : c.prepare_late.new.done ≡ c.args.self.now = c.prepare_late.ensures ∙ c.self.view_is in
    c.retire_all.ensures.value ∙ ap (λ (s : Segments). let t : Segments = record s { segments = map retired s.segments } in t) e
