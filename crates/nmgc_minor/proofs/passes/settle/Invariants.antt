use Rattle.nmgc_minor.proofs.Vocabulary.{◌≡◌, ◌++◌, map, take, drop, forward_word, promoted}
use Rattle.nmgc_minor.proofs.passes.settle.Given as goal

abbrev pub invariant-loop-mutator : goal.invariant-loop-mutator
invariant-loop-mutator g l = l.mutators ≡
    map (promoted g.M.MutatorRoots.registers g.M.MutatorRoots.with_registers g.M.MutatorRoots.queue g.M.MutatorRoots.with_queue
    g.M.MutatorRoots.after_stop (forward_word l.table l.base)) (take l.mutator-index l.initial.mutators) ++
    drop l.mutator-index l.initial.mutators
