use Rattle.nmgc_cycle.proofs.Vocabulary.{◌≡◌, take, moved_weaks}
use Rattle.nmgc_cycle.proofs.weaks.gather_moved.Given as goal

abbrev pub invariant-loop-moved : goal.invariant-loop-moved
invariant-loop-moved g l = record {
  words : g.W.HeapWords.words l.words ≡ g.W.HeapWords.words l.fn.words;
  items : l.fresh.items ≡ moved_weaks (g.W.HeapWords.words l.fn.words) (take l.moved-index l.moves);
}
