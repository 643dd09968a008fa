use Rattle.nmgc_heap_tests.proofs.Sampled.{snapshot_opens}
use Rattle.nmgc_heap_tests.proofs.of_mutator.laws.a_marking_round_opens.Goals as goal

pub returns : goal.returns
returns c = snapshot_opens c.a_small_world_has_words.ensures
