use Rattle.nmgc_run_laws.specs.laws.Closings.{closings_are_soon}
use Rattle.nmgc_run_laws.proofs.laws.closings_are_soon.Goals as goal

pub returns : goal.returns
returns c = closings_are_soon
