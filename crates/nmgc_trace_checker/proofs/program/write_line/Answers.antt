use Rattle.nmgc_trace_checker.proofs.Vocabulary.{label_of, err_from_is_err_and}
use Rattle.nmgc_trace_checker.proofs.{Appended.front_first, Outputs.writes_then, Outputs.written_of}
use Rattle.nmgc_trace_checker.proofs.program.write_line.Goals as goal

pub returns : goal.returns
returns g c =
    let b = g.K.Sink.taken c.write_label.new.output in
    let end = g.K.Sink.taken c.write_all.new.sink in
    let n = g.K.Sink.faults c.write_label.new.output in
    let o = g.K.Sink.faults c.write_all.new.sink in
    let last = c.write_all.ensures in
    writes_then (label_of c.args.name.now) c.args.text.now (g.K.Sink.taken c.args.output.now) b end (g.K.Sink.faults c.args.output.now) n o
    c.write_all.result c.in_ok-write_label.ensures.0 c.in_ok-write_label.ensures.1
    (written_of c.args.text.now b end n o c.write_all.result last.ok last.err last.later last.fault)

pub returns-in_err-write_label : goal.returns-in_err-write_label
returns-in_err-write_label g c =
    let p = err_from_is_err_and c.from_residual.result c.from_residual.ensures.1 in
    rw p.1 (
      front_first (g.K.Sink.taken c.args.output.now) (g.K.Sink.taken c.write_label.new.output) (label_of c.args.name.now) c.args.text.now
          c.in_err-write_label.ensures.0,
      c.in_err-write_label.ensures.1,
    )
