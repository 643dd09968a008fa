use Rattle.nmgc_weak.proofs.Vocabulary.{◌≡◌, ◌++◌, take, vec_capacity, listed}
use Rattle.nmgc_weak.proofs.row.Row.list_into.Given as goal

abbrev pub invariant-loop-entry : goal.invariant-loop-entry
invariant-loop-entry l = record {
  items : l.all.items ≡ l.fn.all.items ++ listed (take l.entry-index l.entry-items);
  capacity : vec_capacity l.all ≡ vec_capacity l.fn.all;
}
