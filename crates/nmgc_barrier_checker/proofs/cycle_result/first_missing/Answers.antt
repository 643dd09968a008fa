use Rattle.nmgc_barrier_checker.proofs.{Vocabulary.◌∙◌, Vocabulary.sym, Vocabulary.false≢true, Vocabulary.Contains, Filters.each_all, Firsts.stands_at}
use Rattle.nmgc_barrier_checker.proofs.cycle_result.first_missing.Goals as goal

pub returns-then-not-is_among : goal.returns-then-not-is_among
returns-then-not-is_among c =
    stands_at (λ n. Contains c.args.names.now n → ⊥) c.args.others.now c.loop-other.other-index (record { maker = 0; serial = 0 })
    c.loop-other-test.true (λ n k never. never (c.loop-other.invariant n k)) (λ k. false≢true (sym c.if-not-is_among.true ∙ c.is_among.ensures.1 k))

pub returns : goal.returns
returns c = each_all (Contains c.args.names.now) c.args.others.now c.loop-other.other-index c.loop-other-test.false c.loop-other.invariant
