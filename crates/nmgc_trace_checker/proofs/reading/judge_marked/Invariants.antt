use Rattle.std.proofs.Common.{string_bytes}
use Rattle.nmgc_trace_checker.proofs.Readings.{Reached}
use Rattle.nmgc_trace_checker.proofs.reading.judge_marked.Given as goal

abbrev pub invariant-loop-number : goal.invariant-loop-number
invariant-loop-number g l =
    Reached (g.R.Read.remaining l.fn.reader) l.fn.is_there (string_bytes l.fn.text) l.number l.progress (g.R.Read.remaining l.reader) l.goes_on
    (string_bytes l.text)
