use Rattle.nmgc_cycle.proofs.{Vocabulary.List, Vocabulary.ℕ, Vocabulary.ap, Vocabulary.subst, Vocabulary.Config, Vocabulary.SomeIsLeft, sessions.Stops.not_left}
use Rattle.nmgc_cycle.proofs.collector.Collector.stop_open.Goals as goal

pub of-script-requires : goal.of-script-requires
of-script-requires g c = c.requires.may

pub do_stop-requires-clause-limits : goal.do_stop-requires-clause-limits
do_stop-requires-clause-limits g c κs out = c.of-script.ensures.limits

pub do_stop-requires-clause-trigger : goal.do_stop-requires-clause-trigger
do_stop-requires-clause-trigger g c κs out = ap (λ (x : Config). x.trigger) c.of-script.ensures.config_is

pub do_stop-requires-clause-left : goal.do_stop-requires-clause-left
do_stop-requires-clause-left g c κs out = c.of-script.ensures.left_is

pub do_stop-requires-clause-can : goal.do_stop-requires-clause-can
do_stop-requires-clause-can g c κs out = c.of-script.ensures.can

pub returns-clause-each : goal.returns-clause-each
returns-clause-each g c = λ script may.
    c.in_ok-answer.ensures.each script may.limits (ap (λ (x : Config). x.trigger) may.config_is) may.left_is may.can

pub returns-clause-done : goal.returns-clause-done
returns-clause-done g c = λ done. not_left c.args.left (SomeIsLeft c.of-script.result.value.threads c.args.self.now.positions.items) c.of-script.ensures.left_is
    (subst (λ (p : List ℕ). SomeIsLeft c.of-script.result.value.threads p → ⊥) c.in_ok-answer.ensures.positions (c.in_ok-answer.ensures.done.0 done).0)
