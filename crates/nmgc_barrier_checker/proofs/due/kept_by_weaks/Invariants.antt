use Rattle.nmgc_barrier_checker.proofs.Vocabulary.{◌≡◌, take, kept_then}
use Rattle.nmgc_barrier_checker.proofs.due.kept_by_weaks.Given as goal

abbrev pub invariant-loop-weak : goal.invariant-loop-weak
invariant-loop-weak l = l.names.items ≡ kept_then l.snapshot (take l.weak-index l.weaks)
