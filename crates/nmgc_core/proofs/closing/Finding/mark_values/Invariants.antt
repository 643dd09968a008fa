use Rattle.nmgc_core.proofs.Vocabulary.{take, Adds}
use Rattle.nmgc_core.proofs.closing.Finding.mark_values.Given as goal

abbrev pub invariant-loop-value : goal.invariant-loop-value
invariant-loop-value l = Adds l.snapshot l.initial.self l.self (take l.value-index l.values)
