use Rattle.nmgc_cycle.proofs.Vocabulary.{◌≡◌, ℕ, ◌<◌, None, Some, slice_get}
use Rattle.nmgc_cycle.proofs.asking.is_some_left.Given as goal

abbrev pub invariant-loop-number : goal.invariant-loop-number
invariant-loop-number g l = (k : ℕ) (p : _) → k < l.number → slice_get l.programs k ≡ Some p → g.P.Program.next p ≡ None
