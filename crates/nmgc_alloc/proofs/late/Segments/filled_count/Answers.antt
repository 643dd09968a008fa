use Rattle.nmgc_alloc.proofs.Vocabulary.{ℕ, ◌∙◌, ap, filled_count, Segments}
use Rattle.std.specs.Prelude.{if◌then◌else◌}
use Rattle.nmgc_alloc.proofs.LateLaws.{filled_seen}
use Rattle.nmgc_alloc.proofs.late.Segments.filled_count.Goals as goal

pub returns : goal.returns
returns c = c.either.ensures ∙ ap (λ (n : ℕ). if c.self.inside.late then 0 else n) c.filled_count.ensures ∙ filled_seen c.self.inside.late c.self.inside.done ∙
    ap (λ (s : Segments). filled_count s.segments) c.self.view_is
