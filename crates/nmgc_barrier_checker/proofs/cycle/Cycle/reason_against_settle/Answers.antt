use Rattle.nmgc_barrier_checker.proofs.{Vocabulary.◌<◌, Vocabulary.◌∙◌, Vocabulary.ℕ, Vocabulary.refl, Vocabulary.sym, Vocabulary.subst, Vocabulary.inl, Vocabulary.inr, Vocabulary.false≢true, Vocabulary.Option, Vocabulary.Debt, Vocabulary.IsLeastIn, Vocabulary.queue_of, Vocabulary.unpaid, AccountLaws.some_own, AccountLaws.none_own, AccountLaws.forgotten_accounts, AccountLaws.forgotten_count, AccountLaws.forgotten_same, CycleLaws.seen_same, CycleLaws.with_accounts, cycle.Cycle.reason_against_settle.Goals.in-Some, cycle.Cycle.reason_against_settle.Goals.in-None}
use Rattle.nmgc_barrier_checker.proofs.cycle.Cycle.reason_against_settle.Goals as goal

pub returns-then-not-has_mutator-clause-settle : goal.returns-then-not-has_mutator-clause-settle
returns-then-not-has_mutator-clause-settle c =
    rw (← c.self.view_is) (inr (refl, λ lt. false≢true (sym c.if-not-has_mutator.true ∙ c.has_mutator.ensures.1 lt)))

pub first_unpaid-requires : goal.first_unpaid-requires
first_unpaid-requires c = subst (λ (n : ℕ). c.args.mutator < n) (sym c.self.invariant.count) (c.has_mutator.ensures.0 c.if-not-has_mutator.false)

pub invariant_of-self : goal.invariant_of-self
invariant_of-self c =
    let lt = subst (λ (n : ℕ). c.args.mutator < n) (sym c.self.invariant.count) (c.has_mutator.ensures.0 c.if-not-has_mutator.false) in
    with_accounts c.self.inside.world c.self.inside.snapshot c.self.inside.remembered c.self.inside.accounts c.self.inside.opened
    c.self.inside.taken c.self.inside.finalised c.self.invariant c.first_unpaid.new.self
    (forgotten_accounts c.self.inside.remembered.set c.args.mutator c.self.inside.accounts c.first_unpaid.new.self lt c.first_unpaid.ensures.forgotten
    c.self.inside.snapshot c.self.invariant.accounts)
    (forgotten_count c.self.inside.remembered.set c.args.mutator c.self.inside.accounts c.first_unpaid.new.self lt c.first_unpaid.ensures.forgotten)

pub returns-clause-settle : goal.returns-clause-settle
returns-clause-settle c = elim c.match-first_unpaid.branch [
  | in-Some w ↦
      let p = some_own c.self.inside.snapshot c.self.inside.remembered.set c.args.mutator c.self.inside.accounts c.self.invariant.accounts
      w.in-Some.debt (subst (λ (o : Option Debt). IsLeastIn (unpaid c.self.inside.remembered.set (queue_of c.self.inside.accounts.debts c.args.mutator)) o)
      w.in-Some.is c.first_unpaid.ensures.first) in
      rw (w.result-is, ← c.self.view_is) (inl (w.in-Some.debt, refl, p, c.has_mutator.ensures.0 c.if-not-has_mutator.false))
  | in-None w ↦
      rw (w.result-is, ← c.self.view_is) (
        c.has_mutator.ensures.0 c.if-not-has_mutator.false,
        none_own c.self.inside.snapshot c.self.inside.remembered.set c.args.mutator c.self.inside.accounts c.self.invariant.accounts
            (subst (λ (o : Option Debt). IsLeastIn (unpaid c.self.inside.remembered.set (queue_of c.self.inside.accounts.debts c.args.mutator)) o)
            w.in-None.is c.first_unpaid.ensures.first),
      )
]

pub returns-clause-same : goal.returns-clause-same
returns-clause-same c =
    let lt = subst (λ (n : ℕ). c.args.mutator < n) (sym c.self.invariant.count) (c.has_mutator.ensures.0 c.if-not-has_mutator.false) in
    rw (← c.self.view_is)
    (seen_same c.self.inside.world c.self.inside.snapshot c.self.inside.remembered c.self.inside.accounts c.first_unpaid.new.self c.self.inside.opened
    c.self.inside.taken c.self.inside.finalised
    (forgotten_same c.self.inside.remembered.set c.args.mutator c.self.inside.accounts c.first_unpaid.new.self lt c.first_unpaid.ensures.forgotten))
