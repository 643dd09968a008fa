use Rattle.nmgc_weak.proofs.Vocabulary.{◌≡◌, ◌<◌, ◌≤◌, ℕ, Some, slice_get, Row}
use Rattle.nmgc_weak.proofs.weaks.reserve_rows.Given as goal

abbrev pub invariant-loop-row : goal.invariant-loop-row
invariant-loop-row l = record {
  done : (k : ℕ) (old new : Row) → k < l.row-index → slice_get l.fn.rows k ≡ Some old → slice_get l.row-items k ≡ Some new →
      (new.list ≡ old.list) × (old.spare ≤ new.spare) × (l.more ≤ new.spare);
  rest : (k : ℕ) → l.row-index ≤ k → slice_get l.row-items k ≡ slice_get l.fn.rows k;
}
