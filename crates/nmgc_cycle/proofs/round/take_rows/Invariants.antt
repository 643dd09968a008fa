use Rattle.nmgc_cycle.proofs.Vocabulary.{◌≡◌, ◌++◌, map, take, drop, cleared, replies_of}
use Rattle.nmgc_cycle.proofs.round.take_rows.Given as goal

abbrev pub invariant-loop-mutator : goal.invariant-loop-mutator
invariant-loop-mutator l = record {
  replies_are : l.replies ≡ replies_of (take l.mutator-index l.initial.mutator-items);
  mutators_are : l.mutator-items ≡ map cleared (take l.mutator-index l.initial.mutator-items) ++ drop l.mutator-index l.initial.mutator-items;
}
