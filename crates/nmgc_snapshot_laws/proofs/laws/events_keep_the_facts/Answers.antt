use Rattle.nmgc_snapshot_laws.specs.laws.Runs.{facts_kept}
use Rattle.nmgc_snapshot_laws.proofs.laws.events_keep_the_facts.Goals as goal

pub returns : goal.returns
returns c = facts_kept
