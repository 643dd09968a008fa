use Rattle.nmgc_core.proofs.Vocabulary.{take, IsPass}
use Rattle.nmgc_core.proofs.closing.Finding.mark_weaks.Given as goal

abbrev pub invariant-loop-weak : goal.invariant-loop-weak
invariant-loop-weak l = IsPass l.core (take l.weak-index l.weaks) l.initial.self l.self
