use Rattle.nmgc_retain.proofs.Vocabulary.{take, All, AreHopsWithin}
use Rattle.nmgc_retain.proofs.levels.are_all_hops_within.Given as goal

abbrev pub invariant-loop-from : goal.invariant-loop-from
invariant-loop-from l = All (AreHopsWithin l.image l.levels) (take l.from-index l.levels)
