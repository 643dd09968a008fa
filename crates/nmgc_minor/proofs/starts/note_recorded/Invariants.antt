use Rattle.nmgc_minor.proofs.Vocabulary.{◌≡◌, take, slice_index, Contains, Address, Notes}
use Rattle.nmgc_minor.proofs.starts.note_recorded.Given as goal

abbrev pub invariant-loop-mutator : goal.invariant-loop-mutator
invariant-loop-mutator g l = record {
  notes : Notes l.initial.young l.young (λ w. (m : _) × Contains (take l.mutator-index l.mutators) m ×
      ((at : Address) × Contains (g.M.MutatorRoots.recorded m) at × (slice_index (g.W.HeapWords.words l.initial.words) at.0 ≡ w)));
  same : g.W.HeapWords.words l.words ≡ g.W.HeapWords.words l.initial.words;
}
