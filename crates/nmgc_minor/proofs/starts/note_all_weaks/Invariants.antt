use Rattle.nmgc_minor.proofs.Vocabulary.{◌≡◌, take, Contains, Address, Notes, IsWeakStart}
use Rattle.nmgc_minor.proofs.starts.note_all_weaks.Given as goal

abbrev pub invariant-loop-at : goal.invariant-loop-at
invariant-loop-at g l = record {
  notes : Notes l.initial.young l.young (λ w. (at : Address) × Contains (take l.at-index l.weaks) at × IsWeakStart (g.W.HeapWords.words l.initial.words) at w);
  same : g.W.HeapWords.words l.words ≡ g.W.HeapWords.words l.initial.words;
}
