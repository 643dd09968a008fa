use Rattle.nmgc_cycle.proofs.Vocabulary.{◌≡◌, take, numbers, left_of}
use Rattle.nmgc_cycle.proofs.weaks.remove_each.Given as goal

abbrev pub invariant-loop-at : goal.invariant-loop-at
invariant-loop-at g l = record {
  words : g.W.HeapWords.words l.words ≡ g.W.HeapWords.words l.fn.words;
  list : l.weaks.list ≡ left_of (g.W.HeapWords.words l.fn.words) (numbers (take l.at-index l.finalised)) l.fn.weaks.list;
  deaths : l.weaks.deaths ≡ l.fn.weaks.deaths;
}
