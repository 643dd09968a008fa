use Rattle.nmgc_barrier_checker.proofs.Vocabulary.{◌≡◌, take, keys_then}
use Rattle.nmgc_barrier_checker.proofs.closing.keys_of_weaks.Given as goal

abbrev pub invariant-loop-weak : goal.invariant-loop-weak
invariant-loop-weak l = l.keys.items ≡ keys_then l.world (take l.weak-index l.weaks)
