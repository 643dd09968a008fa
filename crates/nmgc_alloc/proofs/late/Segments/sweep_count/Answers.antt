use Rattle.nmgc_alloc.proofs.Vocabulary.{ℕ, ◌∙◌, ap, sought_count, Segments, Sweeping}
use Rattle.std.specs.Prelude.{if◌then◌else◌}
use Rattle.nmgc_alloc.proofs.LateLaws.{sweep_seen}
use Rattle.nmgc_alloc.proofs.late.Segments.sweep_count.Goals as goal

pub returns : goal.returns
returns c = c.either.ensures ∙
    ap (λ (y : ℕ × ℕ). if c.self.inside.late then y.0 else y.1) (λ i. (c.filled_count.ensures i, c.sweep_count.ensures i)) ∙
    sweep_seen c.self.inside.late c.self.inside.done c.self.invariant ∙ ap (λ (s : Segments). sought_count Sweeping s.segments) c.self.view_is
