use Rattle.nmgc_barrier_checker.proofs.Vocabulary.{◌≡◌, ◌≤◌, length, take}
use Rattle.nmgc_barrier_checker.specs.Dues.{once}
use Rattle.nmgc_barrier_checker.proofs.due.count_sorted.Given as goal

abbrev pub invariant-loop-place : goal.invariant-loop-place
invariant-loop-place l = record {
  few : l.count ≤ l.place;
  is : l.count ≡ length (once (take l.place l.names));
}
