use Rattle.nmgc_cycle.proofs.Vocabulary.{ℕ, ◌≡◌, length, Some, slice_get, CommandQueue}
use Rattle.nmgc_cycle.specs.Sessions.{IsEmptyQueue}
use Rattle.nmgc_cycle.proofs.session.empty_queues.Given as goal

abbrev pub invariant-loop-number : goal.invariant-loop-number
invariant-loop-number l = record {
  count : length l.queues.items ≡ l._number;
  each : (k : ℕ) (q : CommandQueue) → slice_get l.queues.items k ≡ Some q → IsEmptyQueue l.head.config.words q;
}
