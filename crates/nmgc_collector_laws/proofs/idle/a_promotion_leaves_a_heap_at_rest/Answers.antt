use Rattle.nmgc_collector_laws.specs.laws.Rests.{rests}
use Rattle.nmgc_collector_laws.proofs.idle.a_promotion_leaves_a_heap_at_rest.Goals as goal

pub returns : goal.returns
returns c = rests
