use Rattle.nmgc_alloc.proofs.Vocabulary.{◌∙◌}
use Rattle.nmgc_alloc.proofs.late.Segments.catch_up.Goals as goal

pub returns : goal.returns
returns c = c.prepare_late.ensures ∙ c.self.view_is
