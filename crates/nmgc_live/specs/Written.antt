-- The text of a run's events, written as they come.
use Rattle.std.specs.Prelude.{◌≡◌, ◌++◌}
use Rattle.nmgc_cycle.specs.{declared.observer.Event.Event, EventTexts.event_text, EventTexts.next_round}
use Rattle.nmgc_live.specs.declared.writer.ReportText.{ReportText}

-- a report's text grew by the text of an event
abbrev pub WritesEvent : ReportText → Event → ReportText → Type 0
WritesEvent before e after = (after.text.items ≡ before.text.items ++ event_text before.round e) × (after.round ≡ next_round before.round e)
