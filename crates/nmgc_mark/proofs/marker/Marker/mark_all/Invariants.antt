use Rattle.nmgc_mark.proofs.Vocabulary.{◌≡◌, take, Opening, Marks, HasMarked, IsTied, with_words}
use Rattle.nmgc_mark.proofs.marker.Marker.mark_all.Given as goal

abbrev pub invariant-loop-word : goal.invariant-loop-word
invariant-loop-word l = record {
  marked : HasMarked l.initial.segments l.segments l.initial.self l.self 0;
  turns : l.self.turns ≡ l.initial.self.turns;
  tied : (o : Opening) (m : Marks) → IsTied o m l.initial.segments l.initial.self → IsTied o (with_words o m (take l.word-index l.words)) l.segments l.self;
}
