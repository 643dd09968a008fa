use Rattle.nmgc_barrier_checker.proofs.{CycleLaws.is_bare, CycleLaws.bare_snapshot}
use Rattle.nmgc_barrier_checker.proofs.cycle.Cycle.without_registers.Goals as goal

pub with_snapshot-requires : goal.with_snapshot-requires
with_snapshot-requires c = rw c.in_ok-snapshot.ensures (bare_snapshot c.args.world.now)

pub returns : goal.returns
returns c = rw (← is_bare c.args.world.now, ← c.in_ok-snapshot.ensures) c.with_snapshot.ensures
