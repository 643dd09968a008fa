use Rattle.std.proofs.Common.{◌≡◌, ◌++◌, map, take, drop}
use Rattle.nmgc_weak.proofs.Entries.{marked}
use Rattle.nmgc_weak.proofs.row.flag_dead.Given as goal

-- the dead among the entries so far have left, and the rest are as before
abbrev pub invariant-loop-entry : goal.invariant-loop-entry
invariant-loop-entry g l = record {
  words : g.W.HeapWords.words l.words ≡ g.W.HeapWords.words l.fn.words;
  done : l.entries ≡ map (marked (g.W.HeapWords.words l.fn.words)) (take l.entry-index l.initial.entries) ++ drop l.entry-index l.initial.entries;
}
