use Rattle.nmgc_minor.proofs.Vocabulary.{take, Contains, forward_word, ForwardsAt}
use Rattle.nmgc_minor.proofs.forwarding.forward_places.Given as goal

abbrev pub invariant-loop-at : goal.invariant-loop-at
invariant-loop-at g l = ForwardsAt (forward_word l.table l.base) (g.W.HeapWords.words l.initial.words) (g.W.HeapWords.words l.words) (λ i.
    Contains (take l.at-index l.recorded) (record { 0 = i }))
