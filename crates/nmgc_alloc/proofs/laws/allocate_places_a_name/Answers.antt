use Rattle.nmgc_alloc.specs.laws.Placing.{placed_stands}
use Rattle.nmgc_alloc.proofs.laws.allocate_places_a_name.Goals as goal

pub returns : goal.returns
returns c = placed_stands
