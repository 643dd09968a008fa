use Rattle.nmgc_alloc.specs.laws.Keeping.{carried_stands}
use Rattle.nmgc_alloc.proofs.laws.carry_keeps_the_state.Goals as goal

pub returns : goal.returns
returns c = carried_stands
