use Rattle.nmgc_weak.proofs.Vocabulary.{◌≡◌, ◌⊎◌, ◌+◌, ◌-◌, ◌<◌, ◌≤◌, ℕ, [], length, vec_len, Some, slice_get, MAKERS, Row, list_of}
use Rattle.nmgc_weak.proofs.weaks.add_missing_rows.Given as goal

abbrev pub invariant-loop-alloc : goal.invariant-loop-alloc
invariant-loop-alloc l = record {
  list : list_of l.rows.items ≡ list_of l.fn.rows.items;
  more : length l.fn.rows.items ≤ length l.rows.items;
  rows : (k : ℕ) (row : Row) → slice_get l.rows.items k ≡ Some row →
      (slice_get l.fn.rows.items k ≡ Some row) ⊎ ((row.list ≡ []) × (length l.fn.rows.items < MAKERS + 1));
}

abbrev pub decreases-loop-alloc : goal.decreases-loop-alloc
decreases-loop-alloc l = (MAKERS + 1) - vec_len l.rows
