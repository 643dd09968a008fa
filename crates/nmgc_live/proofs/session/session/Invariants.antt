use Rattle.std.proofs.Common.{◌≤◌}
use Rattle.nmgc_live.specs.Steps.{IsAtStop}
use Rattle.nmgc_live.proofs.session.session.Given as goal

-- a stop comes next
abbrev pub invariant-loop-stop : goal.invariant-loop-stop
invariant-loop-stop g l = record {
  at_stop : IsAtStop l.options (g.S.Source.left l.fn.source) (g.S.Source.left l.source) (g.K.Sink.taken l.fn.sink) (g.K.Sink.taken l.sink) l.live;
  reads : g.S.Source.faults l.fn.source ≤ g.S.Source.faults l.source;
  writes : g.K.Sink.faults l.fn.sink ≤ g.K.Sink.faults l.sink;
}
