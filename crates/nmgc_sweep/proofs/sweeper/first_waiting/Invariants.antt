use Rattle.nmgc_sweep.proofs.Vocabulary.{ℕ, ◌<◌, ◌≤◌, IsWaiting}
use Rattle.nmgc_sweep.proofs.sweeper.first_waiting.Given as goal

-- no segment so far waits
abbrev pub invariant-loop-number : goal.invariant-loop-number
invariant-loop-number l = (i : ℕ) → l.from ≤ i → i < l.number → IsWaiting l.segments i → ⊥
