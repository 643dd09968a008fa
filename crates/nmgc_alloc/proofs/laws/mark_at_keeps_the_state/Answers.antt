use Rattle.nmgc_alloc.specs.laws.Keeping.{marked_stands}
use Rattle.nmgc_alloc.proofs.laws.mark_at_keeps_the_state.Goals as goal

pub returns : goal.returns
returns c = marked_stands
