use Rattle.nmgc_trace_checker.proofs.Outputs.{passed_live}
use Rattle.nmgc_trace_checker.proofs.program.judge_reader.Goals as goal

pub returns-in-Ok : goal.returns-in-Ok
returns-in-Ok g c = let h = c.in-Ok.ensures.outcome in (h.0, h.2, h.1, c.outcome_of.ensures.later)

pub returns : goal.returns
returns g c =
    let h = c.in-Err.ensures.fault in
    passed_live (g.R.Read.remaining c.args.reader) c.args.is_asked (g.K.Sink.taken c.args.output.now) (g.K.Sink.taken c.outcome_of.new.answers)
    (g.K.Sink.faults c.args.output.now) (g.K.Sink.faults c.outcome_of.new.answers) h.0 c.in-Err.fault c.pass_on.result c.pass_on.ensures h.1 h.2
    c.outcome_of.ensures.later
