use Rattle.nmgc_alloc.proofs.Vocabulary.{◌≡◌, ◌∙◌, ap, subst, min, sought_count, Sweeping, Segments, SweepsMany}
use Rattle.nmgc_alloc.specs.Halves.{IsInHalf}
use Rattle.nmgc_alloc.proofs.late.Segments.sweep_many.Goals as goal

pub sweep_many-requires-clause-before : goal.sweep_many-requires-clause-before
sweep_many-requires-clause-before g c κs within = λ half i inside.
    let e : c.prepare_late.new.done ≡ c.args.self.now = c.prepare_late.ensures ∙ c.self.view_is in
    c.requires.before half i (subst (λ (s : Segments). IsInHalf (min c.args.quota (sought_count Sweeping s.segments)) half i) e inside)

pub returns-clause-count : goal.returns-clause-count
returns-clause-count g c =
    let e : c.prepare_late.new.done ≡ c.args.self.now = c.prepare_late.ensures ∙ c.self.view_is in
    c.sweep_many.ensures.count ∙ ap (λ (s : Segments). min c.args.quota (sought_count Sweeping s.segments)) e

pub returns-clause-swept : goal.returns-clause-swept
returns-clause-swept g c =
    let e : c.prepare_late.new.done ≡ c.args.self.now = c.prepare_late.ensures ∙ c.self.view_is in
    subst (λ (s : Segments). SweepsMany c.args.epoch c.sweep_many.result s c.sweep_many.new.self) e c.sweep_many.ensures.swept
