use Rattle.nmgc_weak.proofs.{Vocabulary.◌≡◌, Vocabulary.◌≤◌, Vocabulary.vec_len, Vocabulary.vec_capacity, Vocabulary.Opening, Vocabulary.CanResolve, Vocabulary.places_of, Finding.IsFinding}
use Rattle.nmgc_weak.proofs.resolve.find_dying.Given as goal

abbrev pub invariant-loop-weak : goal.invariant-loop-weak
invariant-loop-weak g l = record {
  words : g.W.HeapWords.words l.words ≡ g.W.HeapWords.words l.fn.words;
  capacity : vec_capacity l.dying ≡ vec_capacity l.fn.dying;
  few : vec_len l.dying ≤ l.weak-index;
  each : (o : Opening) → CanResolve o (g.W.HeapWords.words l.fn.words) l.segments l.marker (places_of l.list) → IsFinding o l.list l.dying.items l.weak-index;
}
