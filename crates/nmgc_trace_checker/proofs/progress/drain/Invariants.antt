use Rattle.nmgc_trace_checker.specs.Trace.{Scans}
use Rattle.nmgc_trace_checker.proofs.progress.drain.Given as goal

abbrev pub invariant-loop : goal.invariant-loop
invariant-loop l = Scans l.initial.core l.counter l.core
