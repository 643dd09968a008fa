use Rattle.nmgc_mark.proofs.Vocabulary.{◌≡◌, take, Opening, Marks, slots_of, HasMarked, IsTied, with_words}
use Rattle.nmgc_mark.proofs.marker.Marker.mark_shared.Given as goal

abbrev pub invariant-loop-slot : goal.invariant-loop-slot
invariant-loop-slot g l = record {
  words : g.W.HeapWords.words l.words ≡ g.W.HeapWords.words l.initial.words;
  marked : HasMarked l.initial.segments l.segments l.initial.self l.self 0;
  turns : l.self.turns ≡ l.initial.self.turns;
  tied : (o : Opening) (m : Marks) → IsTied o m l.initial.segments l.initial.self →
      IsTied o (with_words o m (take l.slot (slots_of (g.W.HeapWords.words l.initial.words)))) l.segments l.self;
}
