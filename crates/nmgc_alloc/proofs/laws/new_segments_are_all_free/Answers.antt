use Rattle.nmgc_alloc.specs.laws.OneState.{first_stands}
use Rattle.nmgc_alloc.proofs.laws.new_segments_are_all_free.Goals as goal

pub returns : goal.returns
returns c = first_stands
