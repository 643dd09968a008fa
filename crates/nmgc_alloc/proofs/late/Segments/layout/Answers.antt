use Rattle.nmgc_alloc.proofs.Vocabulary.{◌∙◌, ap, subst, sym, Segments, IsSegments}
use Rattle.nmgc_alloc.proofs.LateLaws.{layout_seen, sound_seen}
use Rattle.nmgc_alloc.proofs.late.Segments.layout.Goals as goal

pub returns-clause-layout : goal.returns-clause-layout
returns-clause-layout c = c.layout.ensures.layout ∙ sym (layout_seen c.self.inside.late c.self.inside.done) ∙ ap (λ (s : Segments). s.layout) c.self.view_is

pub returns-clause-sound : goal.returns-clause-sound
returns-clause-sound c = subst (λ (s : Segments). IsSegments s) c.self.view_is (sound_seen c.self.inside.late c.self.inside.done c.layout.ensures.sound)
