use Rattle.nmgc_barrier_checker.proofs.{Vocabulary.List, Vocabulary.subst, Vocabulary.take_all, Vocabulary.Name, Vocabulary.Joins, ListedLaws.joins_none, ListedLaws.listed_more}
use Rattle.nmgc_barrier_checker.proofs.name_set.NameSet.extend.Goals as goal

pub loop-name-init : goal.loop-name-init
loop-name-init c = record { listed = c.requires; joins = joins_none c.args.snapshot.now c.args.self.now.names }

pub loop-name-preserved : goal.loop-name-preserved
loop-name-preserved c =
    let p = listed_more c.args.snapshot.now c.args.self.now.names c.args.names.now c.loop-name.name-index (record {
      maker = 0;
      serial = 0;
    }) c.loop-name.self c.add.new.self c.loop-name-test.true c.loop-name.invariant.listed c.loop-name.invariant.joins c.in_ok-add.ensures.ok in
    record { listed = p.0; joins = p.1 }

pub returns-clause-joins : goal.returns-clause-joins
returns-clause-joins c =
    subst (λ (l : List Name).
    Joins c.args.snapshot.now c.args.self.now.names l c.loop-name.self.names)
    (take_all c.loop-name.name-index c.args.names.now c.loop-name-test.false) c.loop-name.invariant.joins
