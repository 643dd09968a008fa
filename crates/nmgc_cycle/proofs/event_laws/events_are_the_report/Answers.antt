use Rattle.nmgc_cycle.specs.laws.EventTexts.{report_is_events}
use Rattle.nmgc_cycle.proofs.event_laws.events_are_the_report.Goals as goal

pub returns : goal.returns
returns c = report_is_events
