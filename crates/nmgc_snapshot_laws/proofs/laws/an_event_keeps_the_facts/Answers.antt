use Rattle.nmgc_snapshot_laws.specs.laws.Runs.{event_keeps_facts}
use Rattle.nmgc_snapshot_laws.proofs.laws.an_event_keeps_the_facts.Goals as goal

pub returns : goal.returns
returns c = event_keeps_facts
