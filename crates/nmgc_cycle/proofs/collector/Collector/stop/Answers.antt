use Rattle.nmgc_cycle.proofs.{Vocabulary.ℕ, Vocabulary.◌≡◌, Vocabulary.◌↔◌, Vocabulary.sym, Vocabulary.ap, Vocabulary.subst, Vocabulary.IsTrue, Vocabulary.OnOk, Vocabulary.IfOk, Vocabulary.Script, Vocabulary.SomeIsLeft, Vocabulary.FitsRun, Vocabulary.CanStop, Vocabulary.HasAnswered, Vocabulary.StopsAfter, Vocabulary.IsDone, Vocabulary.IsHeapFullAt, Vocabulary.NothingReachableIsFreed}
use Rattle.nmgc_cycle.specs.declared.stop.StopEnd.TheVariants as answer
use Rattle.nmgc_cycle.proofs.stops.AfterPromotion as after
use Rattle.nmgc_cycle.proofs.collector.Collector.stop.Goals as goal

pub has_commands_left-left-requires : goal.has_commands_left-left-requires
has_commands_left-left-requires g c = (after.kept_of c.args.script.now c.args.self.now c.requires.can).positions_are

pub do_stop-requires-clause-limits : goal.do_stop-requires-clause-limits
do_stop-requires-clause-limits g c κs out = subst FitsRun (sym c.known_before.ensures) c.requires.limits

pub do_stop-requires-clause-trigger : goal.do_stop-requires-clause-trigger
do_stop-requires-clause-trigger g c κs out = ap (λ (s : Script). s.config.trigger) (sym c.known_before.ensures)

pub do_stop-requires-clause-left : goal.do_stop-requires-clause-left
do_stop-requires-clause-left g c κs out = subst (λ (s : Script). IsTrue c.has_commands_left-left.result ↔ SomeIsLeft s.threads c.args.self.now.positions.items)
    (sym c.known_before.ensures) c.has_commands_left-left.ensures

pub do_stop-requires-clause-can : goal.do_stop-requires-clause-can
do_stop-requires-clause-can g c κs out = subst (λ (s : Script). CanStop s c.args.self.now) (sym c.known_before.ensures) c.requires.can

pub returns-clause-answered : goal.returns-clause-answered
returns-clause-answered g c = subst (λ (s : Script). IfOk c.do_stop.result (λ end. HasAnswered s c.do_stop.new.self end)) c.known_before.ensures c.do_stop.ensures.answered

pub returns-clause-after : goal.returns-clause-after
returns-clause-after g c = subst (λ (s : Script). OnOk c.do_stop.result (StopsAfter s c.args.self.now c.do_stop.new.self)) c.known_before.ensures c.do_stop.ensures.after

pub returns-clause-done : goal.returns-clause-done
returns-clause-done g c = subst (λ (s : Script). IfOk c.do_stop.result (λ end. (end ≡ answer.Done) ↔ IsDone s c.do_stop.new.self)) c.known_before.ensures c.do_stop.ensures.done

pub returns-clause-full : goal.returns-clause-full
returns-clause-full g c = subst (λ (s : Script). IfOk c.do_stop.result (λ end. (free reserve : ℕ) → (end ≡ answer.HeapFull free reserve) ↔ IsHeapFullAt s c.do_stop.new.self free reserve)) c.known_before.ensures c.do_stop.ensures.full

pub returns-clause-freed : goal.returns-clause-freed
returns-clause-freed g c = subst (λ (s : Script). OnOk c.do_stop.result (NothingReachableIsFreed s c.do_stop.new.self)) c.known_before.ensures c.do_stop.ensures.freed
