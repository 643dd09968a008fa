use Rattle.std.specs.Prelude.{slice_get}
use Rattle.nmgc_cycle.proofs.stops.Forgetting.{IsDraining, waiting_in}
use Rattle.nmgc_cycle.proofs.cycle.forget.Given as goal

abbrev pub invariant-loop-block : goal.invariant-loop-block
invariant-loop-block l = IsDraining l.fn.inbox l.inbox l.number l.fn.mutator l.mutator

abbrev pub decreases-loop-block : goal.decreases-loop-block
decreases-loop-block l = waiting_in (slice_get l.inbox l.number) l.mutator.sender
