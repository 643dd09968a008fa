use Rattle.nmgc_field_checker.proofs.{CycleLaws.cycle_remembered, CycleLaws.pushed_is}
use Rattle.nmgc_field_checker.proofs.cycle.FieldCycle.push.Goals as goal

pub invariant_of-self : goal.invariant_of-self
invariant_of-self c = cycle_remembered c.self.inside.snapshot c.self.inside.roots c.self.inside.remembered c.self.inside.accounts c.self.inside.opened c.self.inside.stores c.self.invariant c.add.new.self c.add.ensures.bound c.add.ensures.grows

pub invariant_of-self-2 : goal.invariant_of-self-2
invariant_of-self-2 c = cycle_remembered c.self.inside.snapshot c.self.inside.roots c.self.inside.remembered c.self.inside.accounts c.self.inside.opened c.self.inside.stores c.self.invariant c.add.new.self c.add.ensures.bound c.add.ensures.grows

pub returns : goal.returns
returns c =
    let there = rw (← c.self.view_is) at c.requires in
    rw (← c.self.view_is) (pushed_is c.self.inside.snapshot c.self.inside.roots c.self.inside.remembered c.self.inside.accounts c.self.inside.opened c.self.inside.stores c.self.invariant c.self.inside.heap c.self.inside.unscanned c.args.object c.add.new.self there c.in_ok-add.ensures.joins)
