use Rattle.nmgc_cycle.proofs.Vocabulary.{List, Option, map, sym, subst, CycleRow, StopRow, report_row, ObservedStop}
use Rattle.nmgc_cycle.proofs.stops.Observing.{any_err}
use Rattle.nmgc_cycle.specs.declared.observer.Event.TheVariants as event
use Rattle.nmgc_cycle.proofs.collector.observe_stop.Goals as goal

-- the observer was given the stop's row, with these rows in order
pub returns-in_ok-observe-clause-ok : goal.returns-in_ok-observe-clause-ok
returns-in_ok-observe-clause-ok g c =
    subst (λ (stop : Option StopRow). ObservedStop g.J.Observer.steps c.args.observer.now stop (map report_row c.args.rows.cycles) c.observe.new.self)
    (sym c.in-Some.is)
    (subst (λ (rows : List CycleRow). g.J.Observer.steps c.args.observer.now (event.Stop c.in-Some.row rows) c.observe.new.self) c.of-cycles.ensures
    c.in_ok-observe.ensures.ok)

-- the observer failed at it
pub returns-in_err-observe-clause-err : goal.returns-in_err-observe-clause-err
returns-in_err-observe-clause-err g c = any_err c.from_residual.result (
  c.in-Some.row,
  c.in-Some.is,
  subst (λ (rows : List CycleRow). g.J.Observer.fails c.args.observer.now (event.Stop c.in-Some.row rows) c.observe.new.self) c.of-cycles.ensures
      c.in_err-observe.ensures.err,
)
