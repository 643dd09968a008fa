use Rattle.nmgc_alloc.proofs.Vocabulary.{◌∙◌, ap, count_by, is, Free, Segment, Segments}
use Rattle.nmgc_alloc.proofs.LateLaws.{free_seen}
use Rattle.nmgc_alloc.proofs.late.Segments.free_count.Goals as goal

pub returns : goal.returns
returns c = c.free_count.ensures ∙ free_seen c.self.inside.late c.self.inside.done ∙
    ap (λ (s : Segments). count_by (λ (x : Segment). is x.state Free) s.segments) c.self.view_is
