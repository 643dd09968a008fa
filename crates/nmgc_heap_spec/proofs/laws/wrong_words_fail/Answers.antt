use Rattle.nmgc_heap_spec.proofs.SmallHeap.{words_are_determined, no_second_place}
use Rattle.nmgc_heap_spec.proofs.laws.wrong_words_fail.Goals as goal

pub returns : goal.returns
returns g c = record { words = words_are_determined g.K.KnownNodes.knows; places = no_second_place g.K.KnownNodes.knows }
