use Rattle.nmgc_weak.proofs.Vocabulary.{◌≡◌, take, without_values}
use Rattle.nmgc_weak.proofs.resolve.clear_values.Given as goal

abbrev pub invariant-loop-weak : goal.invariant-loop-weak
invariant-loop-weak g l = g.W.HeapWords.words l.words ≡ without_values (g.W.HeapWords.words l.fn.words) (take l.weak-index l.dying)
