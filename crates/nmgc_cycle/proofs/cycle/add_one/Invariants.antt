use Rattle.std.specs.Prelude.{slice_get}
use Rattle.nmgc_cycle.proofs.{stops.Adding.IsGiving, stops.Forgetting.waiting_in}
use Rattle.nmgc_cycle.proofs.cycle.add_one.Given as goal

abbrev pub invariant-loop-block : goal.invariant-loop-block
invariant-loop-block l = IsGiving l.fn.segments l.segments l.fn.marker l.marker l.fn.inbox l.inbox l.number l.fn.mutator l.mutator

abbrev pub decreases-loop-block : goal.decreases-loop-block
decreases-loop-block l = waiting_in (slice_get l.inbox l.number) l.mutator.sender
