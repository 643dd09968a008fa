use Rattle.nmgc_barrier_checker.proofs.{Vocabulary.sym, Vocabulary.ap, Vocabulary.subst, Vocabulary.World, Vocabulary.IsCycle, CycleLaws.seen, Hands.held_cycle}
use Rattle.nmgc_barrier_checker.proofs.cycle.Cycle.set_register.Goals as goal

pub invariant_of-self : goal.invariant_of-self
invariant_of-self c =
    subst (λ (u : World). IsCycle u c.self.inside.snapshot c.self.inside.remembered c.self.inside.accounts c.self.inside.opened c.self.inside.taken
    c.self.inside.finalised) (sym c.set_register-fine.ensures.world)
    (held_cycle c.self.inside.world c.self.inside.snapshot c.self.inside.remembered c.self.inside.accounts c.self.inside.opened c.self.inside.taken
    c.self.inside.finalised c.self.invariant c.args.mutator c.args.register c.args.value
    (rw (← c.self.view_is) at c.requires.mutator) (rw (← c.self.view_is) at c.requires.known))

pub returns : goal.returns
returns c = rw (← c.self.view_is) (ap (λ (u : World). seen u c.self.inside.snapshot c.self.inside.remembered c.self.inside.accounts
    c.self.inside.opened c.self.inside.taken c.self.inside.finalised) c.set_register-fine.ensures.world)
