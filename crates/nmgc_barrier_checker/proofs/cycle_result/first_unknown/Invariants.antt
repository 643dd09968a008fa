use Rattle.nmgc_barrier_checker.proofs.Vocabulary.{take, Contains, IsSome, Name, node_of}
use Rattle.nmgc_barrier_checker.proofs.cycle_result.first_unknown.Given as goal

abbrev pub invariant-loop-name : goal.invariant-loop-name
invariant-loop-name l = (n : Name) → Contains (take l.name-index l.names) n → IsSome (node_of l.world n)
