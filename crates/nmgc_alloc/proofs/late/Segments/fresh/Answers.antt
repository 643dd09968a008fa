use Rattle.nmgc_alloc.proofs.Vocabulary.{ℕ, ◌∙◌, ap, Segments}
use Rattle.std.specs.Prelude.{if◌then◌else◌}
use Rattle.nmgc_alloc.proofs.LateLaws.{fresh_seen}
use Rattle.nmgc_alloc.proofs.late.Segments.fresh.Goals as goal

pub returns : goal.returns
returns c = c.either.ensures ∙ ap (λ (n : ℕ). if c.self.inside.late then 0 else n) c.fresh.ensures ∙ fresh_seen c.self.inside.late c.self.inside.done ∙
    ap (λ (s : Segments). s.fresh) c.self.view_is
