use Rattle.nmgc_barrier_checker.proofs.{Vocabulary.◌∙◌, Vocabulary.sym, Vocabulary.false≢true, Vocabulary.Contains, Firsts.stands_at}
use Rattle.nmgc_barrier_checker.proofs.sorted_names.SortedNames.first_missing.Goals as goal

pub returns-then-not-has : goal.returns-then-not-has
returns-then-not-has c =
    stands_at (λ n. Contains c.args.self.now n → ⊥) c.args.others.now c.loop-other.other-index (record { maker = 0; serial = 0 })
    c.loop-other-test.true (λ n k never. never (c.loop-other.invariant n k)) (λ k. false≢true (sym c.if-not-has.true ∙ c.has.ensures.1 k))
