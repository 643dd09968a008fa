use Rattle.nmgc_barrier_checker.proofs.CycleLaws.{new_seen}
use Rattle.nmgc_barrier_checker.proofs.cycle.Cycle.with_snapshot.Goals as goal

pub returns : goal.returns
returns c = new_seen c.args.world.now c.in_ok-world.world c.args.snapshot c.in_ok-remembered.remembered c.in_ok-opened.opened
    c.in_ok-taken.taken c.in_ok-accounts.accounts c.new-finalised.result c.in_ok-world.ensures c.in_ok-remembered.ensures.none
    c.in_ok-opened.ensures.none c.in_ok-taken.ensures.none c.new-finalised.ensures c.in_ok-accounts.ensures
