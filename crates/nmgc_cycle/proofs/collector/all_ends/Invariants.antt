use Rattle.nmgc_cycle.proofs.Vocabulary.{◌≡◌, map, vec_capacity, end_of, seen_mutator}
use Rattle.nmgc_cycle.proofs.collector.all_ends.Given as goal

abbrev pub invariant-loop-mutator : goal.invariant-loop-mutator
invariant-loop-mutator l = record {
  ends_are : l.ends.items ≡ map end_of (map seen_mutator l.yielded);
  room : vec_capacity l.ends ≡ vec_capacity l.initial.ends;
}
