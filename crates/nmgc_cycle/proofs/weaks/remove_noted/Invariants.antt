use Rattle.nmgc_cycle.proofs.Vocabulary.{◌≡◌, take, finalised_of, left_of}
use Rattle.nmgc_cycle.proofs.weaks.remove_noted.Given as goal

abbrev pub invariant-loop-mutator : goal.invariant-loop-mutator
invariant-loop-mutator g l = record {
  words : g.W.HeapWords.words l.words ≡ g.W.HeapWords.words l.fn.words;
  list : l.weaks.list ≡ left_of (g.W.HeapWords.words l.fn.words) (finalised_of (take l.mutator-index l.mutators)) l.fn.weaks.list;
  deaths : l.weaks.deaths ≡ l.fn.weaks.deaths;
}
