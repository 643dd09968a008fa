use Rattle.nmgc_heap_spec.proofs.SmallHeap.{snapshot_stands}
use Rattle.nmgc_heap_spec.proofs.laws.a_small_world_has_words.Goals as goal

pub returns : goal.returns
returns c = snapshot_stands
