use Rattle.nmgc_barrier_checker.proofs.OrderedLaws.{MetBefore}
use Rattle.nmgc_barrier_checker.proofs.sorted_names.SortedNames.first_left_out.Given as goal

abbrev pub invariant-loop-place : goal.invariant-loop-place
invariant-loop-place l = MetBefore l.met.items l.place
