use Rattle.nmgc_cycle.proofs.Vocabulary.{◌≡◌, ◌+◌, ◌≤◌, ◌++◌, length, vec_len, vec_capacity, deque_len, deque_capacity, workers_of}
use Rattle.nmgc_cycle.proofs.worker.seat_all.Given as goal

-- there is a seat for each mutator left, and the mutators before are workers
abbrev pub invariant-loop-mutator : goal.invariant-loop-mutator
invariant-loop-mutator l = record {
  all : l.workers.items ++ workers_of l.left.items l.seats ≡ workers_of l.fn.mutators.items l.fn.seats;
  count : deque_len l.left ≡ length l.seats;
  room : vec_len l.workers + deque_len l.left ≤ vec_capacity l.workers;
  kept : vec_capacity l.workers ≡ vec_capacity l.fn.workers;
  left_room : deque_capacity l.left ≡ vec_capacity l.fn.mutators;
}

abbrev pub decreases-loop-mutator : goal.decreases-loop-mutator
decreases-loop-mutator l = deque_len l.left
