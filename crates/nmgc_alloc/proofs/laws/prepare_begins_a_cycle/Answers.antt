use Rattle.nmgc_alloc.specs.laws.Turning.{prepared_stands}
use Rattle.nmgc_alloc.proofs.laws.prepare_begins_a_cycle.Goals as goal

pub returns : goal.returns
returns c = prepared_stands
