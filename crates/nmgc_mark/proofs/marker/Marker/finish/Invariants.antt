use Rattle.nmgc_mark.proofs.Vocabulary.{ℕ, ◌≡◌, ◌+◌, length, Opening, Seen, HasMarked, IsAlone, IsReady, IsTied, marks_seen}
use Rattle.nmgc_mark.proofs.marker.Marker.finish.Given as goal

abbrev pub invariant-loop-at : goal.invariant-loop-at
invariant-loop-at g l = record {
  words : g.W.HeapWords.words l.words ≡ g.W.HeapWords.words l.fn.words;
  count : ℕ;
  marked : HasMarked l.fn.segments l.segments l.fn.self l.self count;
  turns : l.self.turns ≡ l.fn.self.turns;
  each : (o : Opening) → IsReady o (g.W.HeapWords.words l.fn.words) l.fn.segments l.fn.self → (u : Seen) ×
      IsAlone o (g.W.HeapWords.words l.fn.words) u × IsTied o (marks_seen u) l.segments l.self;
}

abbrev pub decreases-loop-at : goal.decreases-loop-at
decreases-loop-at g l = l.self.spare + length l.self.queue
