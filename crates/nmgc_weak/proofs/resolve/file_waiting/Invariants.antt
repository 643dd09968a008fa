use Rattle.std.proofs.Common.{◌≡◌, ◌≤◌, vec_len, vec_capacity}
use Rattle.nmgc_weak.proofs.resolve.file_waiting.Given as goal

abbrev pub invariant-loop-place : goal.invariant-loop-place
invariant-loop-place g l = record {
  words : g.W.HeapWords.words l.words ≡ g.W.HeapWords.words l.fn.words;
  capacity : vec_capacity l.waiting ≡ vec_capacity l.fn.waiting;
  few : vec_len l.waiting ≤ l.place;
}
