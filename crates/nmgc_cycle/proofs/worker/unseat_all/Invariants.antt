use Rattle.nmgc_cycle.proofs.Vocabulary.{◌≡◌, ◌+◌, ◌≤◌, ◌++◌, map, vec_len, vec_capacity, deque_len, deque_capacity, mutator_of, seat_of}
use Rattle.nmgc_cycle.proofs.worker.unseat_all.Given as goal

-- the lists have the mutators and seats of the workers before, and room for the rest
abbrev pub invariant-loop-worker : goal.invariant-loop-worker
invariant-loop-worker l = record {
  mutators_are : l.mutators.items ++ map mutator_of l.left.items ≡ map mutator_of l.fn.workers.items;
  seats_are : l.seats.items ++ map seat_of l.left.items ≡ map seat_of l.fn.workers.items;
  mutator_room : vec_len l.mutators + deque_len l.left ≤ vec_capacity l.mutators;
  seat_room : vec_len l.seats + deque_len l.left ≤ vec_capacity l.seats;
  left_room : deque_capacity l.left ≡ vec_capacity l.fn.workers;
}

abbrev pub decreases-loop-worker : goal.decreases-loop-worker
decreases-loop-worker l = deque_len l.left
