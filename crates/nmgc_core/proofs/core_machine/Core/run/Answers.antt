use Rattle.nmgc_core.proofs.{Vocabulary.IsWorld, Vocabulary.subst, Vocabulary.State, Vocabulary.oldest_first, Vocabulary.opening_world, Running.run_begins, Running.run_event}
use Rattle.nmgc_core.proofs.core_machine.Core.run.Goals as goal

pub loop-event-init : goal.loop-event-init
loop-event-init c = record {
  run = run_begins c.args.world c.in_ok-core.core c.in_ok-core.ensures.opening c.in_ok-core.ensures.closed;
  start = subst IsWorld (opening_world oldest_first c.args.world) (subst (λ (s : State). IsWorld s.world) c.in_ok-core.ensures.opening c.in_ok-core.ensures.closed);
  closed = c.in_ok-core.ensures.closed;
}

pub loop-event-preserved : goal.loop-event-preserved
loop-event-preserved c = record {
  run = run_event c.args.world c.args.events.now c.loop-event.event-index c.event-item.result c.loop-event.core c.step.new.self c.in_ok-step.field-0
      c.loop-event.invariant.start c.loop-event-test.true c.event-item.is c.loop-event.invariant.run c.in_ok-step.ensures.done;
  start = c.loop-event.invariant.start;
  closed = c.in_ok-step.ensures.closed;
}
