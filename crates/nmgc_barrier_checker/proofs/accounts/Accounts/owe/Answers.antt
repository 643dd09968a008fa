use Rattle.nmgc_barrier_checker.proofs.{Vocabulary.◌<◌, Vocabulary.ℕ, Vocabulary.List, Vocabulary.sym, Vocabulary.subst, Vocabulary.take_all, Vocabulary.Name, Vocabulary.IsOwing, AccountLaws.owed_more, AccountLaws.owing_none, AccountLaws.forgotten_accounts, AccountLaws.forgotten_count, AccountLaws.forgotten_same}
use Rattle.nmgc_barrier_checker.proofs.accounts.Accounts.owe.Goals as goal

pub loop-name-init : goal.loop-name-init
loop-name-init c = record {
  accounts = forgotten_accounts c.args.marks.now c.args.mutator c.args.self.now c.forget.new.self c.requires.mutator c.forget.ensures
      c.args.snapshot.now c.requires.are;
  count = forgotten_count c.args.marks.now c.args.mutator c.args.self.now c.forget.new.self c.requires.mutator c.forget.ensures;
  owing = owing_none c.args.snapshot.now c.args.marks.now c.args.line c.args.mutator c.args.self.now c.forget.new.self
      (forgotten_same c.args.marks.now c.args.mutator c.args.self.now c.forget.new.self c.requires.mutator c.forget.ensures);
}

pub owe_one-requires-clause-are : goal.owe_one-requires-clause-are
owe_one-requires-clause-are c = c.loop-name.invariant.accounts

pub owe_one-requires-clause-mutator : goal.owe_one-requires-clause-mutator
owe_one-requires-clause-mutator c = subst (λ (n : ℕ). c.args.mutator < n) (sym c.loop-name.invariant.count) c.requires.mutator

pub loop-name-preserved : goal.loop-name-preserved
loop-name-preserved c =
    owed_more c.args.snapshot.now c.args.marks.now c.args.line c.args.mutator c.args.names.now c.loop-name.name-index (record {
      maker = 0;
      serial = 0;
    }) c.args.self.now c.loop-name.self c.owe_one.new.self c.loop-name-test.true c.requires.mutator c.loop-name.invariant c.in_ok-owe_one.ensures.ok

pub returns-clause-owing : goal.returns-clause-owing
returns-clause-owing c =
    subst (λ (l : List Name).
    IsOwing c.args.snapshot.now c.args.marks.now c.args.line c.args.mutator l c.args.self.now c.loop-name.self)
    (take_all c.loop-name.name-index c.args.names.now c.loop-name-test.false) c.loop-name.invariant.owing
