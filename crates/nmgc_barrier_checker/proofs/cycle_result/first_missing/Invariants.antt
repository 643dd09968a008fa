use Rattle.nmgc_barrier_checker.proofs.Vocabulary.{take, Contains, Name}
use Rattle.nmgc_barrier_checker.proofs.cycle_result.first_missing.Given as goal

abbrev pub invariant-loop-other : goal.invariant-loop-other
invariant-loop-other l = (n : Name) → Contains (take l.other-index l.others) n → Contains l.names n
