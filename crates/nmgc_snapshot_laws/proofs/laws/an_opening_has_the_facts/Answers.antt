use Rattle.nmgc_snapshot_laws.specs.laws.Runs.{opening_has_facts}
use Rattle.nmgc_snapshot_laws.proofs.laws.an_opening_has_the_facts.Goals as goal

pub returns : goal.returns
returns c = opening_has_facts
