use Rattle.nmgc_weak.proofs.Vocabulary.{ℕ, ◌≡◌, Opening, HasMarked, CanResolve, GoesTo, places_of}
use Rattle.nmgc_weak.proofs.resolve.pass_until_none.Given as goal

abbrev pub invariant-loop-before : goal.invariant-loop-before
invariant-loop-before g l = record {
  words : g.W.HeapWords.words l.words ≡ g.W.HeapWords.words l.fn.words;
  marked : (count : ℕ) × HasMarked l.fn.segments l.segments l.fn.marker l.marker count;
  turns : l.marker.turns ≡ l.fn.marker.turns;
  each : (o : Opening) → CanResolve o (g.W.HeapWords.words l.fn.words) l.fn.segments l.fn.marker (places_of l.list) → (next : Opening) ×
      GoesTo o next (g.W.HeapWords.words l.fn.words) l.segments l.marker (places_of l.list);
}

abbrev pub decreases-loop-before : goal.decreases-loop-before
decreases-loop-before g l = l.marker.spare
