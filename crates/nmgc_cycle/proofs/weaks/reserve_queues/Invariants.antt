use Rattle.nmgc_cycle.proofs.Vocabulary.{◌≡◌, ◌<◌, ◌≤◌, ℕ, slice_index_or, Mutator, HasQueueRoom, count_made_by}
use Rattle.nmgc_cycle.proofs.weaks.reserve_queues.Given as goal

abbrev pub invariant-loop-mutator : goal.invariant-loop-mutator
invariant-loop-mutator l = record {
  done : (k : ℕ) (d : Mutator) → k < l.mutator-index →
      HasQueueRoom (count_made_by (slice_index_or l.fn.mutators k d).number l.weaks.list) (slice_index_or l.fn.mutators k d) (slice_index_or l.mutator-items k d);
  rest : (k : ℕ) (d : Mutator) → l.mutator-index ≤ k → slice_index_or l.mutator-items k d ≡ slice_index_or l.fn.mutators k d;
}
