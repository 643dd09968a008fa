use Rattle.std.proofs.Common.{◌-◌}
use Rattle.nmgc_mutator.proofs.Stacking.{IsDeep}
use Rattle.nmgc_mutator.proofs.stacks.depth.Given as goal

abbrev pub invariant-loop-low : goal.invariant-loop-low
invariant-loop-low l = IsDeep l.round l.initial.seat l.seat l.at.0 l.slots l.low l.high

abbrev pub decreases-loop-low : goal.decreases-loop-low
decreases-loop-low l = l.high - l.low
