use Rattle.nmgc_trace_checker.proofs.{Vocabulary.is_live, Outputs.live_at, Outputs.not_opened}
use Rattle.nmgc_trace_checker.proofs.program.judge_named.Goals as goal

pub returns-in-Ok : goal.returns-in-Ok
returns-in-Ok g c =
    live_at _ (g.T.Traces.bytes c.args.traces.now c.args.name.now) c.is_live.result (is_live c.args.name.now) (g.K.Sink.taken c.args.output.now)
    (g.K.Sink.taken c.judge_reader.new.output) (g.K.Sink.faults c.args.output.now) (g.K.Sink.faults c.judge_reader.new.output) c.judge_reader.result
    c.in-Ok.ensures.bytes c.is_live.ensures c.judge_reader.ensures

pub returns-in-Err : goal.returns-in-Err
returns-in-Err g c =
    not_opened (g.T.Traces.bytes c.args.traces.now c.args.name.now) (is_live c.args.name.now) (g.K.Sink.taken c.args.output.now)
    (g.K.Sink.faults c.args.output.now) c.in-Err.fault c.in-Err.ensures.fault
