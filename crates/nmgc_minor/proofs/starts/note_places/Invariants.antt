use Rattle.nmgc_minor.proofs.Vocabulary.{◌≡◌, take, slice_index, Contains, Address, Notes}
use Rattle.nmgc_minor.proofs.starts.note_places.Given as goal

abbrev pub invariant-loop-at : goal.invariant-loop-at
invariant-loop-at g l = record {
  notes : Notes l.initial.young l.young (λ w. (at : Address) × Contains (take l.at-index l.recorded) at ×
      (slice_index (g.W.HeapWords.words l.initial.words) at.0 ≡ w));
  same : g.W.HeapWords.words l.words ≡ g.W.HeapWords.words l.initial.words;
}
