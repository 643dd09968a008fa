use Rattle.nmgc_weak.proofs.Vocabulary.{ℕ, ◌≡◌, take, Opening, HasMarked, CanResolve, HasPassed, places_of, names_of}
use Rattle.nmgc_weak.proofs.resolve.pass.Given as goal

abbrev pub invariant-loop-weak : goal.invariant-loop-weak
invariant-loop-weak g l = record {
  words : g.W.HeapWords.words l.words ≡ g.W.HeapWords.words l.fn.words;
  marked : (count : ℕ) × HasMarked l.fn.segments l.segments l.fn.marker l.marker count;
  turns : l.marker.turns ≡ l.fn.marker.turns;
  each : (o : Opening) → CanResolve o (g.W.HeapWords.words l.fn.words) l.fn.segments l.fn.marker (places_of l.list) →
      HasPassed o (g.W.HeapWords.words l.fn.words) l.segments l.marker (places_of l.list) (names_of (take l.weak-index l.list));
}
