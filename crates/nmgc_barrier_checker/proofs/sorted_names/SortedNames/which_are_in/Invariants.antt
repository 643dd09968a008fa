use Rattle.nmgc_barrier_checker.proofs.Vocabulary.{take, AreMet}
use Rattle.nmgc_barrier_checker.proofs.sorted_names.SortedNames.which_are_in.Given as goal

abbrev pub invariant-loop-other : goal.invariant-loop-other
invariant-loop-other l = AreMet l.self (take l.other-index l.others) l.met.items
