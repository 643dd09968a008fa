use Rattle.nmgc_minor.proofs.Vocabulary.{◌≡◌, take, Contains, Address, IsWeakStart, Notes}
use Rattle.nmgc_minor.proofs.starts.note_weaks.Given as goal

abbrev pub invariant-loop-mutator : goal.invariant-loop-mutator
invariant-loop-mutator g l = record {
  notes : Notes l.initial.young l.young (λ w. (m : _) × Contains (take l.mutator-index l.mutators) m ×
      ((at : Address) × Contains (g.M.MutatorRoots.young_weaks m) at × IsWeakStart (g.W.HeapWords.words l.initial.words) at w));
  same : g.W.HeapWords.words l.words ≡ g.W.HeapWords.words l.initial.words;
}
