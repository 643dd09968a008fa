use Rattle.nmgc_mark.proofs.Vocabulary.{◌≡◌, map, take, Opening, Marks, HasMarked, IsTied, with_queues}
use Rattle.nmgc_mark.proofs.marker.Marker.mark_queues.Given as goal

abbrev pub invariant-loop-mutator : goal.invariant-loop-mutator
invariant-loop-mutator g l = record {
  marked : HasMarked l.initial.segments l.segments l.initial.self l.self 0;
  turns : l.self.turns ≡ l.initial.self.turns;
  tied : (o : Opening) (m : Marks) → IsTied o m l.initial.segments l.initial.self →
      IsTied o (with_queues o m (map g.M.MutatorRoots.queue (take l.mutator-index l.mutators))) l.segments l.self;
}
