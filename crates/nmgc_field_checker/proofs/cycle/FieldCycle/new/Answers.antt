use Rattle.nmgc_field_checker.proofs.{EndLaws.begins_is, EndLaws.cycle_new}
use Rattle.nmgc_field_checker.proofs.cycle.FieldCycle.new.Goals as goal

pub invariant_of-result : goal.invariant_of-result
invariant_of-result c = rw (c.in_ok-snapshot.ensures, c.in_ok-remembered.ensures, c.in_ok-opened.ensures, c.in_ok-stores.ensures) (cycle_new c.args.heap c.count-count.result c.count-count.ensures c.args.there.now c.in_ok-unscanned.unscanned c.args.roots.now c.in_ok-read.read c.in_ok-accounts.accounts c.in_ok-read.ensures c.in_ok-accounts.ensures.debts c.in_ok-accounts.ensures.latest)

pub returns : goal.returns
returns c = rw (c.in_ok-snapshot.ensures, c.in_ok-remembered.ensures, c.in_ok-opened.ensures, c.in_ok-stores.ensures) (begins_is c.args.heap c.count-count.result c.count-count.ensures c.args.there.now c.in_ok-unscanned.unscanned c.args.roots.now c.in_ok-read.read c.in_ok-accounts.accounts c.in_ok-read.ensures c.in_ok-accounts.ensures.debts c.in_ok-accounts.ensures.latest c.in_ok-unscanned.ensures c.requires)
