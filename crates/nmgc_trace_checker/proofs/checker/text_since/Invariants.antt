use Rattle.nmgc_trace_checker.proofs.Vocabulary.{DueLine, Contains, take, ◌≢◌}
use Rattle.nmgc_trace_checker.proofs.checker.text_since.Given as goal

abbrev pub invariant-loop-line : goal.invariant-loop-line
invariant-loop-line l = (line : DueLine) → Contains (take l.line-index l.lines) line → line.number ≢ l.debt.line
