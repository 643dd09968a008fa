use Rattle.nmgc_cycle.proofs.Vocabulary.{◌≡◌, ℕ, ◌+◌, ◌<◌, ◌≤◌, length, map, slice_index, done_by}
use Rattle.nmgc_cycle.proofs.round.advance.Given as goal

abbrev pub invariant-loop-number : goal.invariant-loop-number
invariant-loop-number l = record {
  before : (k : ℕ) → k < l.number → k < length l.initial.positions → slice_index l.positions k ≡ slice_index l.initial.positions k +
      slice_index (map done_by l.workers) k;
  after : (k : ℕ) → l.number ≤ k → slice_index l.positions k ≡ slice_index l.initial.positions k;
}
