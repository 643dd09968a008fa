use Rattle.nmgc_barrier_checker.proofs.{Vocabulary.◌<◌, Vocabulary.ℕ, Vocabulary.sym, Vocabulary.subst, CycleLaws.with_opened, CycleLaws.with_accounts, Hands.owed_then}
use Rattle.nmgc_barrier_checker.proofs.cycle.Cycle.owe_names.Goals as goal

pub invariant_of-self : goal.invariant_of-self
invariant_of-self c =
    with_opened c.self.inside.world c.self.inside.snapshot c.self.inside.remembered c.self.inside.accounts c.self.inside.opened c.self.inside.taken
    c.self.inside.finalised c.self.invariant c.extend.new.self c.extend.ensures.listed

pub owe-requires-clause-are : goal.owe-requires-clause-are
owe-requires-clause-are c = c.self.invariant.accounts

pub owe-requires-clause-mutator : goal.owe-requires-clause-mutator
owe-requires-clause-mutator c = subst (λ (n : ℕ). c.args.mutator < n) (sym c.self.invariant.count) (rw (← c.self.view_is) at c.requires)

pub invariant_of-self-in_err-owe : goal.invariant_of-self-in_err-owe
invariant_of-self-in_err-owe c =
    with_accounts c.self.inside.world c.self.inside.snapshot c.self.inside.remembered c.self.inside.accounts c.extend.new.self c.self.inside.taken
    c.self.inside.finalised (with_opened c.self.inside.world c.self.inside.snapshot c.self.inside.remembered c.self.inside.accounts c.self.inside.opened c.self.inside.taken
    c.self.inside.finalised c.self.invariant c.extend.new.self c.extend.ensures.listed) c.owe.new.self c.owe.ensures.are c.owe.ensures.count

pub invariant_of-self-2 : goal.invariant_of-self-2
invariant_of-self-2 c =
    with_accounts c.self.inside.world c.self.inside.snapshot c.self.inside.remembered c.self.inside.accounts c.extend.new.self c.self.inside.taken
    c.self.inside.finalised (with_opened c.self.inside.world c.self.inside.snapshot c.self.inside.remembered c.self.inside.accounts c.self.inside.opened c.self.inside.taken
    c.self.inside.finalised c.self.invariant c.extend.new.self c.extend.ensures.listed) c.owe.new.self c.owe.ensures.are c.owe.ensures.count

pub returns : goal.returns
returns c =
    rw (← c.self.view_is)
    (owed_then c.self.inside.world c.self.inside.snapshot c.self.inside.remembered c.self.inside.accounts c.self.inside.opened c.self.inside.taken
    c.self.inside.finalised c.self.invariant c.args.line c.args.mutator c.args.names.now c.owe.new.self c.extend.new.self
    c.in_ok-extend.ensures.joins c.in_ok-owe.ensures.owing)
