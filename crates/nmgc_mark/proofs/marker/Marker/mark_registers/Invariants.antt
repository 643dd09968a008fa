use Rattle.nmgc_mark.proofs.Vocabulary.{◌≡◌, take, flat_map, Opening, Marks, HasMarked, IsTied, with_words}
use Rattle.nmgc_mark.proofs.marker.Marker.mark_registers.Given as goal

abbrev pub invariant-loop-mutator : goal.invariant-loop-mutator
invariant-loop-mutator g l = record {
  marked : HasMarked l.initial.segments l.segments l.initial.self l.self 0;
  turns : l.self.turns ≡ l.initial.self.turns;
  tied : (o : Opening) (m : Marks) → IsTied o m l.initial.segments l.initial.self →
      IsTied o (with_words o m (flat_map g.M.MutatorRoots.registers (take l.mutator-index l.mutators))) l.segments l.self;
}
