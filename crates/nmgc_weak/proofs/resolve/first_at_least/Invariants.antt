use Rattle.std.proofs.Common.{◌-◌, ◌≤◌, length}
use Rattle.nmgc_weak.proofs.resolve.first_at_least.Given as goal

abbrev pub invariant-loop-low : goal.invariant-loop-low
invariant-loop-low l = l.high ≤ length l.waiting

abbrev pub decreases-loop-low : goal.decreases-loop-low
decreases-loop-low l = l.high - l.low
