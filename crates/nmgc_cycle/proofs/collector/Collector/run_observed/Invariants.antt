use Rattle.nmgc_cycle.proofs.Vocabulary.{◌-◌, length, true, most_stops, CanStop, ObservedRun}
use Rattle.nmgc_cycle.proofs.collector.Collector.run_observed.Given as goal

abbrev pub invariant-stops : goal.invariant-stops
invariant-stops g l = record {
  can : CanStop l.script l.collector;
  observed : ObservedRun g.J.Observer.steps l.fn.observer l.collector true l.observer;
}

-- each stop is one more of the possible stops
abbrev pub decreases-stops : goal.decreases-stops
decreases-stops g l = most_stops l.script - length l.collector.rows.stops
