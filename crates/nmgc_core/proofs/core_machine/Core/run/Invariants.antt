use Rattle.nmgc_core.proofs.{Vocabulary.take, Vocabulary.IsWorld, Running.IsRunning}
use Rattle.nmgc_core.proofs.core_machine.Core.run.Given as goal

abbrev pub invariant-loop-event : goal.invariant-loop-event
invariant-loop-event l = record { run : IsRunning l.fn.world (take l.event-index l.events) l.core; start : IsWorld l.fn.world; closed : IsWorld l.core.world }
