use Rattle.nmgc_barrier_checker.proofs.{Vocabulary.◌<◌, Vocabulary.◌∙◌, Vocabulary.ℕ, Vocabulary.[], Vocabulary.ap, Vocabulary.refl, Vocabulary.sym, Vocabulary.subst, Vocabulary.List, Vocabulary.Debt, Vocabulary.IsLeastIn, Vocabulary.unpaid, AccountLaws.item_is, AccountLaws.forgotten_count, AccountLaws.forgotten_queue}
use Rattle.nmgc_barrier_checker.proofs.accounts.Accounts.first_unpaid.Goals as goal

pub returns-clause-first : goal.returns-clause-first
returns-clause-first c =
    let f = c.forget.ensures in
    let lt = subst (λ (n : ℕ).
    c.args.mutator < n) (sym (forgotten_count c.args.marks.now c.args.mutator c.args.self.now c.forget.new.self c.requires f)) c.requires in
    let is = item_is c.items.result.now c.forget.new.self.debts c.args.mutator c.index-items-mutator.result [] c.items.ensures lt ∙
    forgotten_queue c.args.marks.now c.args.mutator c.args.self.now c.forget.new.self c.requires f in
    subst (λ (l : List Debt). IsLeastIn l c.least_of.result)
    (ap (λ (l : List Debt). unpaid c.args.marks.now l) (c.items-2.ensures ∙ c.index-items-mutator.is ∙ is) ∙ f.same) (c.least_of.ensures [] refl)
