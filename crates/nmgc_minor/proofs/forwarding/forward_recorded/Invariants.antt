use Rattle.nmgc_minor.proofs.Vocabulary.{take, Contains, flat_map, forward_word, ForwardsAt}
use Rattle.nmgc_minor.proofs.forwarding.forward_recorded.Given as goal

abbrev pub invariant-loop-mutator : goal.invariant-loop-mutator
invariant-loop-mutator g l = ForwardsAt (forward_word l.table l.base) (g.W.HeapWords.words l.initial.words) (g.W.HeapWords.words l.words) (λ i.
    Contains (flat_map g.M.MutatorRoots.recorded (take l.mutator-index l.mutators)) (record { 0 = i }))
