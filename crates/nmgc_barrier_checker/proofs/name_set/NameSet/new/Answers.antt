use Rattle.nmgc_barrier_checker.proofs.ListedLaws.{none_listed}
use Rattle.nmgc_barrier_checker.proofs.name_set.NameSet.new.Goals as goal

pub returns-clause-listed : goal.returns-clause-listed
returns-clause-listed c = none_listed c.args.snapshot.now (record {
  set = c.in_ok-set.set;
  names = c.new-names.result;
}) c.in_ok-set.ensures.places c.in_ok-set.ensures.none c.new-names.ensures
