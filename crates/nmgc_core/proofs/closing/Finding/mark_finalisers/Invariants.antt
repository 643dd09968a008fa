use Rattle.nmgc_core.proofs.Vocabulary.{take, finalisers_of, Adds}
use Rattle.nmgc_core.proofs.closing.Finding.mark_finalisers.Given as goal

abbrev pub invariant-loop-weak : goal.invariant-loop-weak
invariant-loop-weak l = Adds l.snapshot l.initial.self l.self (finalisers_of l.snapshot (take l.weak-index l.weaks))
