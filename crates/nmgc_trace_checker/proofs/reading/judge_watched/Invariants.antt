use Rattle.nmgc_trace_checker.proofs.Readings.{Answered}
use Rattle.nmgc_trace_checker.proofs.reading.judge_watched.Given as goal

abbrev pub invariant-loop-number : goal.invariant-loop-number
invariant-loop-number g l =
    Answered (g.R.Read.remaining l.fn.reader) l.is_asked l.number l.checker (g.R.Read.remaining l.reader) (g.K.Sink.taken l.fn.answers)
    (g.K.Sink.taken l.answers) (g.K.Sink.faults l.fn.answers) (g.K.Sink.faults l.answers)
