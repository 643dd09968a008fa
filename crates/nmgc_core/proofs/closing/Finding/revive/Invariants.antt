use Rattle.nmgc_core.proofs.Vocabulary.{◌+◌, length, unmarked_count, IsReviving, AreRevived}
use Rattle.nmgc_core.proofs.closing.Finding.revive.Given as goal

abbrev pub invariant-loop-self : goal.invariant-loop-self
invariant-loop-self l = record { reviving : IsReviving l.core l.self; revived : AreRevived l.core l.weaks l.self }

abbrev pub decreases-loop-self : goal.decreases-loop-self
decreases-loop-self l = unmarked_count l.self.marks + length l.self.work
