use Rattle.std.proofs.Common.{◌-◌}
use Rattle.nmgc_weak.proofs.Entries.{IsBetween}
use Rattle.nmgc_weak.proofs.row.find.Given as goal

abbrev pub invariant-loop-low : goal.invariant-loop-low
invariant-loop-low l = IsBetween l.entries l.weak l.low l.high

abbrev pub decreases-loop-low : goal.decreases-loop-low
decreases-loop-low l = l.high - l.low
