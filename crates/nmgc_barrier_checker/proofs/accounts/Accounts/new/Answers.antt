use Rattle.nmgc_barrier_checker.proofs.AccountLaws.{new_are}
use Rattle.nmgc_barrier_checker.proofs.accounts.Accounts.new.Goals as goal

pub returns : goal.returns
returns c = new_are c.args.snapshot.now (record {
  debts = c.in_ok-debts.debts;
  names = c.in_ok-names.names;
  newest = 0;
}) c.mutators.result c.in_ok-debts.ensures c.mutators.ensures.count c.in_ok-names.ensures.count
    c.in_ok-names.ensures.places c.in_ok-names.ensures.free
