use Rattle.nmgc_cycle.proofs.Vocabulary.{◌≡◌, ℕ, ◌<◌, Some, Yield, slice_get}
use Rattle.nmgc_cycle.proofs.program_run.are_parked.Given as goal

abbrev pub invariant-loop-number : goal.invariant-loop-number
invariant-loop-number g l = (k : ℕ) (p : _) → k < l.number → slice_get l.programs k ≡ Some p → g.P.Program.next p ≡ Some Yield
