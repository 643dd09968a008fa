use Rattle.nmgc_cli.proofs.{Vocabulary.map, Vocabulary.Global, Vocabulary.string_bytes, Vocabulary.Rose, Answering.ends, Answering.reports, Answering.told}
use Rattle.nmgc_cli.proofs.top.nmgc.Goals as goal

pub returns-clause-reported : goal.returns-clause-reported
returns-clause-reported g c =
    let t = c.output_for-status.ensures.reported in (
      t.0,
      t.1,
      ends (g.K.Sink.taken c.args.sink.now) (g.K.Sink.taken c.write_output.new.sink)
          (Rose (g.K.Sink.faults c.args.sink.now) (g.K.Sink.faults c.write_output.new.sink)) t.0 c.output_for-status.result c.bytes.result.now c.write_output.result
          t.2 c.bytes.ensures c.write_output.ensures,
    )

pub returns-clause-report : goal.returns-clause-report
returns-clause-report g c =
    let t = returns-clause-reported g c in
    let arguments = map (string_bytes {Z = Global}) c.args.arguments.now in
    let left = g.S.Source.left c.args.source.now in
    let left' = g.S.Source.left c.output_for-status.new.source in
    let taken = g.K.Sink.taken c.args.sink.now in
    let taken' = g.K.Sink.taken c.write_output.new.sink in
    let read_fault = Rose (g.S.Source.faults c.args.source.now) (g.S.Source.faults c.output_for-status.new.source) in
    let write_fault = Rose (g.K.Sink.faults c.args.sink.now) (g.K.Sink.faults c.write_output.new.sink) in
    told arguments left left' taken taken' write_fault c.write_output.result c.output_for-status.result.report
    (reports arguments left left' taken taken' read_fault write_fault t.0 c.write_output.result c.output_for-status.result.report t.1 t.2)
