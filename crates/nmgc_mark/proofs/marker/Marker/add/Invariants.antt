use Rattle.nmgc_mark.proofs.Vocabulary.{◌≡◌, take, Opening, Marks, HasMarked, places, IsTied, with_places}
use Rattle.nmgc_mark.proofs.marker.Marker.add.Given as goal

abbrev pub invariant-loop-at : goal.invariant-loop-at
invariant-loop-at l = record {
  marked : HasMarked l.initial.segments l.segments l.initial.self l.self 0;
  turns : l.self.turns ≡ l.initial.self.turns;
  tied : (o : Opening) (m : Marks) → IsTied o m l.initial.segments l.initial.self →
      IsTied o (with_places o m (places (take l.at-index l.entries))) l.segments l.self;
}
