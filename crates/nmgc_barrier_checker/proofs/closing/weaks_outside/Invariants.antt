use Rattle.nmgc_barrier_checker.proofs.Vocabulary.{◌≡◌, take, filter, is_outside}
use Rattle.nmgc_barrier_checker.proofs.closing.weaks_outside.Given as goal

abbrev pub invariant-loop-weak : goal.invariant-loop-weak
invariant-loop-weak l = l.living ≡ filter (is_outside l.dying l.ended) (take l.weak-index l.weaks)
