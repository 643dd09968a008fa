use Rattle.nmgc_weak.proofs.Vocabulary.{◌≡◌, ◌<◌, ◌≤◌, ℕ, Some, slice_get, IsInOrder, Row, alive_of, names_of}
use Rattle.nmgc_weak.proofs.weaks.remove_dead.Given as goal

abbrev pub invariant-loop-row : goal.invariant-loop-row
invariant-loop-row g l = record {
  words : g.W.HeapWords.words l.words ≡ g.W.HeapWords.words l.fn.words;
  done : (k : ℕ) (old new : Row) → k < l.row-index → slice_get l.fn.rows k ≡ Some old → slice_get l.row-items k ≡ Some new →
      (new.list ≡ alive_of (g.W.HeapWords.words l.fn.words) old.list) × IsInOrder (names_of new.list) × (old.spare ≤ new.spare);
  rest : (k : ℕ) → l.row-index ≤ k → slice_get l.row-items k ≡ slice_get l.fn.rows k;
}
