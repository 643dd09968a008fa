use Rattle.nmgc_minor.proofs.Vocabulary.{◌+◌, HEADER_WORDS, forward_word, CopiesFields}
use Rattle.nmgc_minor.proofs.forwarding.copy_fields.Given as goal

abbrev pub invariant-loop-i : goal.invariant-loop-i
invariant-loop-i g l =
    CopiesFields (forward_word l.table l.base) (g.W.HeapWords.words l.initial.words) (g.W.HeapWords.words l.words) (l.from + HEADER_WORDS)
    (l.to + HEADER_WORDS) l.i
