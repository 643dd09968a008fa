use Rattle.std.proofs.Common.{arith, subst, sym}
use Rattle.std.proofs.lemmas.Result.{err_from_is_err_and}
use Rattle.nmgc_live.specs.Live.{HasEndedRun}
use Rattle.nmgc_live.proofs.Ending.{stop_given_up}
use Rattle.nmgc_live.proofs.session.session.Goals as goal

pub returns-in_err-live-clause-refused : goal.returns-in_err-live-clause-refused
returns-in_err-live-clause-refused g c =
    let p = err_from_is_err_and c.from_residual.result c.from_residual.ensures.1 in
    rw (p.1, p.2) c.in_err-live.ensures.refused

pub loop-stop-init : goal.loop-stop-init
loop-stop-init g c = record { at_stop = c.in_ok-live.ensures.begun; reads = c.begin.ensures.reads; writes = c.begin.ensures.writes }

pub answer_stop-requires-after_bounds : goal.answer_stop-requires-after_bounds
answer_stop-requires-after_bounds g c κs within = c.loop-stop.invariant.at_stop.0

pub returns-in_err-end-clause-refused : goal.returns-in_err-end-clause-refused
returns-in_err-end-clause-refused g c =
    let p = err_from_is_err_and c.from_residual-in_err-end.result c.from_residual-in_err-end.ensures.1 in
    rw (p.1, p.2) (c.in_err-end.ensures.refused c.args.options (g.S.Source.left c.args.source.now) (g.S.Source.left c.loop-stop.source)
    (g.K.Sink.taken c.args.sink.now) c.loop-stop.invariant.at_stop)

pub returns-in-Some-clause-ended : goal.returns-in-Some-clause-ended
returns-in-Some-clause-ended g c =
    let o = c.args.options in
    let lb = g.S.Source.left c.args.source.now in
    let ln = g.S.Source.left c.loop-stop.source in
    let tb = g.K.Sink.taken c.args.sink.now in
    subst (HasEndedRun o lb ln tb (g.K.Sink.taken c.answer_stop.new.sink)) (sym c.of_end.ensures)
    (c.in_ok-end.ensures.answered.ends c.in-Some.end c.in-Some.is o lb ln tb c.loop-stop.invariant.at_stop)

pub come_to_stop-requires-after_bounds : goal.come_to_stop-requires-after_bounds
come_to_stop-requires-after_bounds g c κs within =
    (c.in_ok-end.ensures.answered.goes_on c.in_default.is c.args.options (g.S.Source.left c.args.source.now) (g.S.Source.left c.loop-stop.source)
    (g.K.Sink.taken c.args.sink.now) c.loop-stop.invariant.at_stop).0

pub returns-in_err-come_to_stop-clause-refused : goal.returns-in_err-come_to_stop-clause-refused
returns-in_err-come_to_stop-clause-refused g c =
    let p = err_from_is_err_and c.from_residual-in_err-come_to_stop.result c.from_residual-in_err-come_to_stop.ensures.1 in
    let lb = g.S.Source.left c.args.source.now in
    let tb = g.K.Sink.taken c.args.sink.now in
    rw (p.1, p.2) (c.in_err-come_to_stop.ensures.refused lb tb
    (c.in_ok-end.ensures.answered.goes_on c.in_default.is c.args.options lb (g.S.Source.left c.loop-stop.source) tb c.loop-stop.invariant.at_stop))

pub loop-stop-preserved : goal.loop-stop-preserved
loop-stop-preserved g c =
    let i = c.loop-stop.invariant in
    let lb = g.S.Source.left c.args.source.now in
    let tb = g.K.Sink.taken c.args.sink.now in
    record {
      at_stop = c.in_ok-come_to_stop.ensures.did lb tb
          (c.in_ok-end.ensures.answered.goes_on c.in_default.is c.args.options lb (g.S.Source.left c.loop-stop.source) tb i.at_stop);
      reads = omega (arith, i.reads, c.come_to_stop.ensures.reads);
      writes = omega (arith, i.writes, c.answer_stop.ensures.writes, c.come_to_stop.ensures.writes);
    }

pub returns-clause-refused : goal.returns-clause-refused
returns-clause-refused g c =
    let h = c.loop-stop.invariant.at_stop in
    let live = c.loop-stop.live in
    stop_given_up c.args.options (g.S.Source.left c.args.source.now) (g.S.Source.left c.loop-stop.source) (g.K.Sink.taken c.args.sink.now)
    (g.K.Sink.taken c.loop-stop.sink) h.1.0 live.lines live.session live.session live.is_open live.report live.report h.1.1
