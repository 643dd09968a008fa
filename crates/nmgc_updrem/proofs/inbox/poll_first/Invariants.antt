use Rattle.nmgc_updrem.specs.Rings.{HavePolled}
use Rattle.nmgc_updrem.proofs.inbox.poll_first.Given as goal

abbrev pub invariant-loop-k : goal.invariant-loop-k
invariant-loop-k l = HavePolled l.initial.receivers l.receivers
