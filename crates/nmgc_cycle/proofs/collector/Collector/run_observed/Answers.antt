use Rattle.nmgc_cycle.proofs.{Vocabulary.◌∷◌, Vocabulary.[], Vocabulary.List, Vocabulary.length, Vocabulary.length-append, Vocabulary.arith, Vocabulary.ap, Vocabulary.subst, Vocabulary.inl, Vocabulary.inr, Vocabulary.StopRow, Vocabulary.HasAnswered, Vocabulary.but_last, Vocabulary.each_event, Vocabulary.false, Vocabulary.no_event, Vocabulary.refl, Vocabulary.true, lengths.Few.stop_fits, stops.Observing.any_err, stops.Observing.nothing_observed, stops.Observing.once_handed, stops.Observing.round_failed, stops.Observing.round_observed, stops.Observing.stop_failed, stops.Observing.stop_observed, stops.Observing.stopped_any}
use Rattle.nmgc_cycle.proofs.collector.Collector.run_observed.Goals as goal

pub stops-init : goal.stops-init
stops-init g c = record {
  can = inl c.in_ok-collector.ensures.fresh;
  observed = nothing_observed g.J.Observer.steps c.args.observer.now c.args.script.now c.in_ok-collector.collector c.in_ok-collector.ensures.fresh;
}

pub observe_stop-requires : goal.observe_stop-requires
observe_stop-requires g c = once_handed c.args.script.now c.stops.collector c.stop.new.self c.in_ok-answer.answer c.new-handed.result.cycles
    c.stop.new.rows.cycles c.in_ok-answer.ensures.answered c.in_ok-answer.ensures.cycles c.new-handed.ensures.1

pub stops-preserved : goal.stops-preserved
stops-preserved g c =
    let stopped = stop_observed g.J.Observer.steps c.args.observer.now c.stops.observer c.observe_stop.new.observer c.stops.collector
    c.stop.new.self c.in_ok-answer.ensures.stops.0 c.stop.new.rows.stop c.new-handed.result.cycles c.stop.new.rows.cycles c.stops.invariant.observed
    c.new-handed.ensures.1 c.in_ok-answer.ensures.stops.2 c.in_ok-answer.ensures.stops.3 c.in_ok-answer.ensures.rounds c.in_ok-answer.ensures.stops.1 c.in_ok-answer.ensures.cycles
    c.in_ok-observe_stop.ensures.ok in
    record {
      can = inr c.in_ok-rows-in-GoOn.ensures.worked.0;
      observed = round_observed g.J.Observer.steps c.args.observer.now c.observe_stop.new.observer c.observe.new.self c.stop.new.self c.round.new.self
          c.in_ok-rows-in-GoOn.rows stopped c.in_ok-rows-in-GoOn.ensures.reported
          c.in_ok-rows-in-GoOn.ensures.stops c.in_ok-rows-in-GoOn.ensures.cycles c.in_ok-observe-in-GoOn.ensures.ok;
    }

pub stops-smaller : goal.stops-smaller
stops-smaller g c =
    let before : List StopRow = c.stops.collector.rows.stops in
    let fits = stop_fits c.args.script.now c.stops.collector c.requires c.stops.invariant.can in
    let most = fits.within in
    let reported = c.in_ok-answer.ensures.stops in
    let many = ap (λ (stops : List StopRow). length stops) reported.1 in
    let added = length-append before (reported.0 ∷ []) in
    let same = ap (λ (stops : List StopRow). length stops) c.in_ok-rows-in-GoOn.ensures.stops in
    omega (arith, most, many, added, same)

-- the run ends as its last stop answered

pub returns-in-Done-clause-ok : goal.returns-in-Done-clause-ok
returns-in-Done-clause-ok g c = (
  subst (HasAnswered c.args.script.now c.stop.new.self) c.in-Done.is c.in_ok-answer.ensures.answered,
  stop_observed g.J.Observer.steps c.args.observer.now c.stops.observer c.observe_stop.new.observer c.stops.collector
      c.stop.new.self c.in_ok-answer.ensures.stops.0 c.stop.new.rows.stop c.new-handed.result.cycles c.stop.new.rows.cycles c.stops.invariant.observed
      c.new-handed.ensures.1 c.in_ok-answer.ensures.stops.2 c.in_ok-answer.ensures.stops.3 c.in_ok-answer.ensures.rounds c.in_ok-answer.ensures.stops.1 c.in_ok-answer.ensures.cycles
      c.in_ok-observe_stop.ensures.ok,
)

pub returns-in-HeapFull-clause-ok : goal.returns-in-HeapFull-clause-ok
returns-in-HeapFull-clause-ok g c = (
  subst (HasAnswered c.args.script.now c.stop.new.self) c.in-HeapFull.is c.in_ok-answer.ensures.answered,
  stop_observed g.J.Observer.steps c.args.observer.now c.stops.observer c.observe_stop.new.observer c.stops.collector
      c.stop.new.self c.in_ok-answer.ensures.stops.0 c.stop.new.rows.stop c.new-handed.result.cycles c.stop.new.rows.cycles c.stops.invariant.observed
      c.new-handed.ensures.1 c.in_ok-answer.ensures.stops.2 c.in_ok-answer.ensures.stops.3 c.in_ok-answer.ensures.rounds c.in_ok-answer.ensures.stops.1 c.in_ok-answer.ensures.cycles
      c.in_ok-observe_stop.ensures.ok,
)

-- a run that was given up: the events so far

pub returns-in_err-collector-clause-err : goal.returns-in_err-collector-clause-err
returns-in_err-collector-clause-err g c = any_err _ (no_event refl)

pub returns-in_err-answer-clause-err : goal.returns-in_err-answer-clause-err
returns-in_err-answer-clause-err g c = any_err _ (each_event c.stops.collector true c.stops.invariant.can c.stops.invariant.observed)

pub returns-in_err-observe_stop-clause-err : goal.returns-in_err-observe_stop-clause-err
returns-in_err-observe_stop-clause-err g c = any_err _ (but_last c.stop.new.self false (stopped_any c.args.script.now c.stop.new.self c.in_ok-answer.answer c.in_ok-answer.ensures.answered)
    (stop_failed g.J.Observer.steps g.J.Observer.fails c.args.observer.now c.stops.observer c.observe_stop.new.observer c.stops.collector
    c.stop.new.self c.in_ok-answer.ensures.stops.0 c.stop.new.rows.stop c.new-handed.result.cycles c.stop.new.rows.cycles c.stops.invariant.observed
    c.new-handed.ensures.1 c.in_ok-answer.ensures.stops.2 c.in_ok-answer.ensures.stops.3 c.in_ok-answer.ensures.rounds c.in_ok-answer.ensures.stops.1 c.in_ok-answer.ensures.cycles
    c.in_err-observe_stop.ensures.err))

pub returns-in_err-rows-in-GoOn-clause-err : goal.returns-in_err-rows-in-GoOn-clause-err
returns-in_err-rows-in-GoOn-clause-err g c = any_err _ (each_event c.stop.new.self false (stopped_any c.args.script.now c.stop.new.self c.in_ok-answer.answer c.in_ok-answer.ensures.answered)
    (stop_observed g.J.Observer.steps c.args.observer.now c.stops.observer c.observe_stop.new.observer c.stops.collector
    c.stop.new.self c.in_ok-answer.ensures.stops.0 c.stop.new.rows.stop c.new-handed.result.cycles c.stop.new.rows.cycles c.stops.invariant.observed
    c.new-handed.ensures.1 c.in_ok-answer.ensures.stops.2 c.in_ok-answer.ensures.stops.3 c.in_ok-answer.ensures.rounds c.in_ok-answer.ensures.stops.1 c.in_ok-answer.ensures.cycles
    c.in_ok-observe_stop.ensures.ok))

pub returns-in_err-observe-in-GoOn-clause-err : goal.returns-in_err-observe-in-GoOn-clause-err
returns-in_err-observe-in-GoOn-clause-err g c =
    let stopped = stop_observed g.J.Observer.steps c.args.observer.now c.stops.observer c.observe_stop.new.observer c.stops.collector
    c.stop.new.self c.in_ok-answer.ensures.stops.0 c.stop.new.rows.stop c.new-handed.result.cycles c.stop.new.rows.cycles c.stops.invariant.observed
    c.new-handed.ensures.1 c.in_ok-answer.ensures.stops.2 c.in_ok-answer.ensures.stops.3 c.in_ok-answer.ensures.rounds c.in_ok-answer.ensures.stops.1 c.in_ok-answer.ensures.cycles
    c.in_ok-observe_stop.ensures.ok in
    any_err _ (but_last c.round.new.self true (inr c.in_ok-rows-in-GoOn.ensures.worked.0)
    (round_failed g.J.Observer.steps g.J.Observer.fails c.args.observer.now c.observe_stop.new.observer c.observe.new.self c.stop.new.self c.round.new.self
    c.in_ok-rows-in-GoOn.rows stopped c.in_ok-rows-in-GoOn.ensures.reported
    c.in_ok-rows-in-GoOn.ensures.stops c.in_ok-rows-in-GoOn.ensures.cycles c.in_err-observe-in-GoOn.ensures.err))
