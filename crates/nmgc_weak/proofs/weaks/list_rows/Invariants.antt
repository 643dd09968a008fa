use Rattle.nmgc_weak.proofs.Vocabulary.{◌≡◌, take, vec_capacity, vec_len, length, list_of}
use Rattle.nmgc_weak.proofs.weaks.list_rows.Given as goal

abbrev pub invariant-loop-row : goal.invariant-loop-row
invariant-loop-row l = record {
  items : l.all.items ≡ list_of (take l.row-index l.rows);
  len : vec_len l.all ≡ length (list_of (take l.row-index l.rows));
  capacity : vec_capacity l.all ≡ vec_capacity l.fn.all;
}
