-- The text of a run's events, as a report has it.
use Rattle.std.specs.Prelude.{ℕ, ◌≡◌, ◌+◌, ◌++◌, List, [], ◌∷◌, codes, false}
use Rattle.nmgc_script.specs.declared.script.Script.{Script}
use Rattle.nmgc_journal.specs.{Printing.round_text, Printing.stop_text, Text.end_text, Text.report_text, declared.report.End.End}
use Rattle.nmgc_cycle.specs.{declared.collector.Collector.Collector, declared.observer.Event.Event, Observed.AreEventsOf, Shown.report_of}
use Rattle.nmgc_cycle.specs.declared.observer.Event.TheVariants as event

-- the number of the next round after an event: after a stop it is the stop's number and one more
abbrev pub next_round : ℕ → Event → ℕ
next_round n (event.Stop row cycles) = row.number + 1
next_round n (event.Round rows) = n

-- the text of an event; n is the number of the next round
abbrev pub event_text : ℕ → Event → List ℕ
event_text n (event.Stop row cycles) = stop_text row cycles
event_text n (event.Round rows) = round_text n rows

-- the text of events, one after the other
abbrev pub events_text : ℕ → List Event → List ℕ
events_text n [] = []
events_text n (e ∷ events) = event_text n e ++ events_text (next_round n e) events

-- the law that a report's first line, the text of all events, and the last line are the text of the collector's report
abbrev pub ReportIsEvents : Type 0
ReportIsEvents = (c : Collector) (end : End) (events : List Event) → AreEventsOf c false events →
    (codes "report 1\n" ++ events_text 0 events) ++ end_text end ≡ report_text (report_of c end)
