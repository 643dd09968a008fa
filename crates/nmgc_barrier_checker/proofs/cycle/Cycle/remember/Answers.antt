use Rattle.nmgc_barrier_checker.proofs.CycleLaws.{pushed_cycle, pushed_then}
use Rattle.nmgc_barrier_checker.proofs.cycle.Cycle.remember.Goals as goal

pub add-requires : goal.add-requires
add-requires c = c.self.invariant.remembered.places

pub invariant_of-self-2 : goal.invariant_of-self-2
invariant_of-self-2 c =
    rw c.in_ok-add.ensures.ok (pushed_cycle c.self.inside.world c.self.inside.snapshot c.self.inside.remembered c.self.inside.accounts
    c.self.inside.opened c.self.inside.taken c.self.inside.finalised c.self.invariant c.args.name)

pub returns : goal.returns
returns c = rw (
  ← c.self.view_is,
  c.in_ok-add.ensures.ok,
) (pushed_then c.self.inside.world c.self.inside.snapshot c.self.inside.remembered c.self.inside.accounts
    c.self.inside.opened c.self.inside.taken c.self.inside.finalised c.self.invariant c.args.name (rw (← c.self.view_is) at c.requires))
