use Rattle.nmgc_cycle.proofs.Vocabulary.{◌≡◌, ◌++◌, map, take, drop}
use Rattle.nmgc_cycle.specs.Sessions.{with_pause}
use Rattle.nmgc_cycle.proofs.session.allow_pauses.Given as goal

abbrev pub invariant-loop-queue : goal.invariant-loop-queue
invariant-loop-queue l = l.queue-items ≡ map with_pause (take l.queue-index l.initial.queue-items) ++ drop l.queue-index l.initial.queue-items
