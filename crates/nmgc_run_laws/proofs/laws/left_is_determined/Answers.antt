use Rattle.nmgc_run_laws.specs.laws.Lefts.{left_is_determined}
use Rattle.nmgc_run_laws.proofs.laws.left_is_determined.Goals as goal

pub returns : goal.returns
returns c = left_is_determined
