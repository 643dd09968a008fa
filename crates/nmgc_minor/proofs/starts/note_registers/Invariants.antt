use Rattle.nmgc_minor.proofs.Vocabulary.{take, Contains, Notes}
use Rattle.nmgc_minor.proofs.starts.note_registers.Given as goal

abbrev pub invariant-loop-mutator : goal.invariant-loop-mutator
invariant-loop-mutator g l =
    Notes l.initial.young l.young (λ w. (m : _) × Contains (take l.mutator-index l.mutators) m × Contains (g.M.MutatorRoots.registers m) w)
