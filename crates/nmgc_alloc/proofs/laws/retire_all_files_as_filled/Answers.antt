use Rattle.nmgc_alloc.specs.laws.Turning.{retired_stands}
use Rattle.nmgc_alloc.proofs.laws.retire_all_files_as_filled.Goals as goal

pub returns : goal.returns
returns c = retired_stands
