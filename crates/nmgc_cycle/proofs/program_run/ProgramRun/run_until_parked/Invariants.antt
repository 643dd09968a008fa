use Rattle.nmgc_cycle.proofs.{Vocabulary.◌-◌, Vocabulary.length, rounds.StopByStop.HasAdvanced, rounds.StopByStop.most_stops_of}
use Rattle.nmgc_cycle.proofs.program_run.ProgramRun.run_until_parked.Given as goal

abbrev pub invariant-turns : goal.invariant-turns
invariant-turns g l = HasAdvanced g.J.Observer.steps g.P.Program.next g.P.Program.steps g.P.Program.words g.P.Program.most g.P.Program.valid l.initial.self l.self l.initial.programs l.programs l.initial.observer l.observer

-- each stop is one more of the possible stops
abbrev pub decreases-turns : goal.decreases-turns
decreases-turns g l = most_stops_of l.initial.self.config (length l.initial.programs) - length l.self.collector.rows.stops
