use Rattle.nmgc_core.proofs.Vocabulary.{◌+◌, length, unmarked_count, IsFollowed}
use Rattle.nmgc_core.proofs.closing.Finding.follow.Given as goal

abbrev pub invariant-loop-name : goal.invariant-loop-name
invariant-loop-name l = IsFollowed l.core l.initial.self l.self

abbrev pub decreases-loop-name : goal.decreases-loop-name
decreases-loop-name l = unmarked_count l.self.marks + length l.self.work
