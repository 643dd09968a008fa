use Rattle.nmgc_trace_checker.proofs.Vocabulary.{label_of, AppendsFront, Rose, List, subst, ℕ, ◌++◌, ◌≤◌, err_from_is_err_and, Appends}
use Rattle.nmgc_trace_checker.proofs.Outputs.{line_cut, line_written, live_cut}
use Rattle.nmgc_trace_checker.proofs.program.write_answer.Goals as goal

pub returns : goal.returns
returns g c =
    let b = g.K.Sink.taken c.judge_named.new.output in
    let end = g.K.Sink.taken c.write_line.new.output in
    let n = g.K.Sink.faults c.judge_named.new.output in
    let o = g.K.Sink.faults c.write_line.new.output in
    line_written (g.T.Traces.bytes c.args.traces.now) c.args.name.now (g.K.Sink.taken c.args.output.now) b end (g.K.Sink.faults c.args.output.now) n o
    c.in_ok-judged.judged c.shown_result-status.result.0 c.shown_result-status.result.1 c.in_ok-judged.ensures c.shown_result-status.ensures
    (subst (λ (t : List ℕ). Appends b end (label_of c.args.name.now ++ t) × (n ≤ o)) c.bytes.ensures c.in_ok-write_line.ensures)

pub returns-in_err-judged : goal.returns-in_err-judged
returns-in_err-judged g c =
    let p = err_from_is_err_and c.from_residual.result c.from_residual.ensures.1 in
    rw p.1 (live_cut (g.T.Traces.bytes c.args.traces.now) c.args.name.now (g.K.Sink.taken c.args.output.now) (g.K.Sink.taken c.judge_named.new.output)
    (g.K.Sink.faults c.args.output.now) (g.K.Sink.faults c.judge_named.new.output) p.0 c.in_err-judged.ensures)

pub returns-in_err-write_line : goal.returns-in_err-write_line
returns-in_err-write_line g c =
    let b = g.K.Sink.taken c.judge_named.new.output in
    let end = g.K.Sink.taken c.write_line.new.output in
    let n = g.K.Sink.faults c.judge_named.new.output in
    let o = g.K.Sink.faults c.write_line.new.output in
    let p = err_from_is_err_and c.from_residual-in_err-write_line.result c.from_residual-in_err-write_line.ensures.1 in
    rw p.1 (line_cut (g.T.Traces.bytes c.args.traces.now) c.args.name.now (g.K.Sink.taken c.args.output.now) b end (g.K.Sink.faults c.args.output.now) n o
    c.in_ok-judged.judged c.shown_result-status.result.0 c.shown_result-status.result.1 c.in_ok-judged.ensures c.shown_result-status.ensures p.0
    (subst (λ (t : List ℕ). AppendsFront b end (label_of c.args.name.now ++ t) × Rose n o) c.bytes.ensures c.in_err-write_line.ensures))
