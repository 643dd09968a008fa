use Rattle.nmgc_field_checker.proofs.{Vocabulary.refl, CycleLaws.cycle_roots, CycleLaws.scanned_is}
use Rattle.nmgc_field_checker.proofs.cycle.FieldCycle.scan.Goals as goal

pub invariant_of-self : goal.invariant_of-self
invariant_of-self c = cycle_roots c.self.inside.snapshot c.self.inside.roots c.self.inside.remembered c.self.inside.accounts c.self.inside.opened c.self.inside.stores c.self.invariant c.extend.new.self c.extend.ensures.bound c.extend.ensures.grows

pub invariant_of-self-2 : goal.invariant_of-self-2
invariant_of-self-2 c = cycle_roots c.self.inside.snapshot c.self.inside.roots c.self.inside.remembered c.self.inside.accounts c.self.inside.opened c.self.inside.stores c.self.invariant c.extend.new.self c.extend.ensures.bound c.extend.ensures.grows

pub returns : goal.returns
returns c =
    let there = rw (← c.self.view_is) at c.requires in
    rw (← c.self.view_is) (scanned_is c.self.inside.snapshot c.self.inside.roots c.self.inside.remembered c.self.inside.accounts c.self.inside.opened c.self.inside.stores c.self.invariant c.self.inside.heap c.self.inside.unscanned c.args.number c.args.roots.now c.remove.new.self c.extend.new.self (c.if-not-has.ensures.0 refl) there
    c.remove.ensures c.in_ok-extend.ensures.joins)
