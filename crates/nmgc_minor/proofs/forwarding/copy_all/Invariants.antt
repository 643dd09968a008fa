use Rattle.nmgc_minor.proofs.Vocabulary.{take, forward_word, CopiesAll}
use Rattle.nmgc_minor.proofs.forwarding.copy_all.Given as goal

abbrev pub invariant-loop-moved : goal.invariant-loop-moved
invariant-loop-moved g l =
    CopiesAll (forward_word l.table l.base) (g.W.HeapWords.words l.initial.words) (g.W.HeapWords.words l.words) (take l.moved-index l.moves)
