use Rattle.nmgc_alloc.proofs.Vocabulary.{◌≡◌, ◌∙◌, ap, subst, sym, Segments, HasNoneIn, begun}
use Rattle.nmgc_alloc.proofs.LateLaws.{begun_sound}
use Rattle.nmgc_segment.specs.declared.state.State.TheVariants as state
use Rattle.nmgc_alloc.proofs.late.Segments.prepare.Goals as goal

pub invariant_of-self : goal.invariant_of-self
invariant_of-self c = λ late.
    let e : c.prepare_late.new.done ≡ c.args.self.now = c.prepare_late.ensures ∙ c.self.view_is in
    subst (λ (s : Segments). HasNoneIn state.Sweeping s) (sym e) c.requires

pub returns-clause-value : goal.returns-clause-value
returns-clause-value c = ap begun (c.prepare_late.ensures ∙ c.self.view_is)

pub returns-clause-sound : goal.returns-clause-sound
returns-clause-sound c = begun_sound c.prepare_late.new.done c.layout.ensures.sound
