use Rattle.nmgc_alloc.proofs.Vocabulary.{◌≡◌, ◌∙◌, subst, IfSome, IfNone, Segments, HasNoneIn, SweepsNext}
use Rattle.nmgc_segment.specs.declared.state.State.TheVariants as state
use Rattle.nmgc_alloc.proofs.late.Segments.sweep_next.Goals as goal

pub returns-clause-none : goal.returns-clause-none
returns-clause-none c =
    let e : c.prepare_late.new.done ≡ c.args.self.now = c.prepare_late.ensures ∙ c.self.view_is in
    subst (λ (s : Segments). IfNone c.sweep_next.result (HasNoneIn state.Sweeping s × (c.sweep_next.new.self ≡ s))) e c.sweep_next.ensures.none

pub returns-clause-some : goal.returns-clause-some
returns-clause-some c =
    let e : c.prepare_late.new.done ≡ c.args.self.now = c.prepare_late.ensures ∙ c.self.view_is in
    subst (λ (s : Segments). IfSome c.sweep_next.result (λ number. SweepsNext s c.sweep_next.new.self c.args.epoch number)) e c.sweep_next.ensures.some
