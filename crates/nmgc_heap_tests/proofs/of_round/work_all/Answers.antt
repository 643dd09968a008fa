use Rattle.nmgc_heap_tests.proofs.Vocabulary.{subst, RoundSeat, IsAt, seen, HasPart}
use Rattle.nmgc_heap_tests.proofs.of_round.work_all.Goals as goal

pub returns-clause-seats : goal.returns-clause-seats
returns-clause-seats g c = λ k d lt. let t = (c.for_each_mut.ensures k d lt).1 in
    subst (λ (s : RoundSeat). IsAt c.args.round.now s × HasPart (seen s) k) t.left t.call
