use Rattle.nmgc_barrier_checker.proofs.{Vocabulary.◌∙◌, Vocabulary.refl, Vocabulary.subst, Vocabulary.List, Vocabulary.Name, Vocabulary.Joins, CycleLaws.with_opened}
use Rattle.nmgc_barrier_checker.proofs.cycle.Cycle.read_registers.Goals as goal

pub invariant_of-self : goal.invariant_of-self
invariant_of-self c =
    with_opened c.self.inside.world c.self.inside.snapshot c.self.inside.remembered c.self.inside.accounts c.self.inside.opened c.self.inside.taken
    c.self.inside.finalised c.self.invariant c.extend.new.self c.extend.ensures.listed

pub invariant_of-self-2 : goal.invariant_of-self-2
invariant_of-self-2 c =
    with_opened c.self.inside.world c.self.inside.snapshot c.self.inside.remembered c.self.inside.accounts c.self.inside.opened c.self.inside.taken
    c.self.inside.finalised c.self.invariant c.extend.new.self c.extend.ensures.listed

pub returns : goal.returns
returns c = rw (← c.self.view_is) (record {
  rest = refl;
  opened = subst (λ (l : List Name). Joins c.self.inside.snapshot c.self.inside.opened.names l c.extend.new.self.names)
      (c.as_slice.ensures.value ∙ (c.in_ok-names.ensures ∙ rw c.registers.ensures refl)) c.in_ok-extend.ensures.joins;
})
