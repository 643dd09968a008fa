use Rattle.nmgc_barrier_checker.proofs.Vocabulary.{take, Contains, Name, MayFree}
use Rattle.nmgc_barrier_checker.proofs.cycle_result.CycleResult.reason_against_freed.Given as goal

abbrev pub invariant-loop-name : goal.invariant-loop-name
invariant-loop-name l = (n : Name) → Contains (take l.name-index l.names) n → MayFree l.self n
