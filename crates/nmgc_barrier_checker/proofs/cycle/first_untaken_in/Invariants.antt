use Rattle.nmgc_barrier_checker.proofs.Vocabulary.{take, IsUntakenIn}
use Rattle.nmgc_barrier_checker.proofs.cycle.first_untaken_in.Given as goal

abbrev pub invariant-loop-name : goal.invariant-loop-name
invariant-loop-name l = IsUntakenIn l.taken (take l.name-index l.names) l.first
