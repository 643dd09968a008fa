use Rattle.std.proofs.Common.{ℕ, ◌≢◌, ◌<◌, ◌≤◌, ◌-◌, length, slice_index}
use Rattle.nmgc_io.proofs.cutting.position_of.Given as goal

-- no byte so far is the separator
abbrev pub invariant-loop-at : goal.invariant-loop-at
invariant-loop-at l = (l.at ≤ length l.bytes) × ((k : ℕ) → k < l.at → slice_index l.bytes k ≢ l.byte)

abbrev pub decreases-loop-at : goal.decreases-loop-at
decreases-loop-at l = length l.bytes - l.at

-- nor is a byte after them
abbrev pub invariant-loop-rest : goal.invariant-loop-rest
invariant-loop-rest l = (k : ℕ) → k < l.rest → slice_index l.bytes k ≢ l.byte
