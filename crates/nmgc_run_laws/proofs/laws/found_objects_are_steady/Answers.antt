use Rattle.nmgc_run_laws.specs.laws.Bounds.{found_is_steady}
use Rattle.nmgc_run_laws.proofs.laws.found_objects_are_steady.Goals as goal

pub returns : goal.returns
returns c = found_is_steady
