use Rattle.nmgc_field_reader.specs.FieldTraces.{trace_of}
use Rattle.nmgc_trace_checker.proofs.FieldReadings.{FieldsAnswered}
use Rattle.nmgc_trace_checker.proofs.reading.judge_fields.Given as goal

abbrev pub invariant-loop-number : goal.invariant-loop-number
invariant-loop-number g l =
    FieldsAnswered (g.R.Read.remaining l.fn.reader) l.is_asked l.number (trace_of l.checker) (g.R.Read.remaining l.reader) (g.K.Sink.taken l.fn.answers)
    (g.K.Sink.taken l.answers) (g.K.Sink.faults l.fn.answers) (g.K.Sink.faults l.answers)
