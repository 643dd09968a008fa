use Rattle.nmgc_cycle.proofs.Vocabulary.{◌≡◌, ℕ, ◌<◌, ◌≤◌, length, min, slice_index_or, Mutator, Reserves, HasLists, most_at}
use Rattle.nmgc_cycle.proofs.round.reserve_all.Given as goal

abbrev pub invariant-loop-number : goal.invariant-loop-number
invariant-loop-number g l = record {
  kept : (k : ℕ) (d : Mutator) → k < l.number → k < length l.initial.mutators →
      Reserves (slice_index_or l.initial.mutators k d) (slice_index_or l.mutators k d);
  room : (k : ℕ) (d : Mutator) → k < l.number → k < length l.initial.mutators →
      HasLists (min l.slice (most_at g.P.Program.most l.programs k)) (slice_index_or l.mutators k d);
  after : (k : ℕ) (d : Mutator) → l.number ≤ k → slice_index_or l.mutators k d ≡ slice_index_or l.initial.mutators k d;
}
