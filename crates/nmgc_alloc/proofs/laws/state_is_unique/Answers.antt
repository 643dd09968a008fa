use Rattle.nmgc_alloc.specs.laws.OneState.{one_state}
use Rattle.nmgc_alloc.proofs.laws.state_is_unique.Goals as goal

pub returns : goal.returns
returns c = one_state
