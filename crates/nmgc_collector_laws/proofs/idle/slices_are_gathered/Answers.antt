use Rattle.nmgc_collector_laws.specs.laws.Gathered.{slices_gathered}
use Rattle.nmgc_collector_laws.proofs.idle.slices_are_gathered.Goals as goal

pub returns : goal.returns
returns c = slices_gathered
