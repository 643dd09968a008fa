use Rattle.nmgc_barrier_checker.proofs.Vocabulary.{take, true, Contains, Name, IsBlackName}
use Rattle.nmgc_barrier_checker.proofs.cycle_result.CycleResult.first_unkept.Given as goal

abbrev pub invariant-loop-name : goal.invariant-loop-name
invariant-loop-name l = (n : Name) → Contains (take l.name-index l.names) n → IsBlackName l.self n true
