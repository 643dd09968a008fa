use Rattle.nmgc_minor.proofs.Vocabulary.{◌<◌, ◌≤◌, forward_word, ForwardsAt}
use Rattle.nmgc_minor.proofs.forwarding.forward_shared.Given as goal

abbrev pub invariant-loop-i : goal.invariant-loop-i
invariant-loop-i g l = ForwardsAt (forward_word l.table l.base) (g.W.HeapWords.words l.initial.words) (g.W.HeapWords.words l.words) (λ i.
    (l.first ≤ i) × (i < l.i))
