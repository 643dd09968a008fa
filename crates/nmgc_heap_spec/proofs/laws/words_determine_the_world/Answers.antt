use Rattle.nmgc_heap_spec.proofs.Vocabulary.{one_world, same_reach}
use Rattle.nmgc_heap_spec.proofs.laws.words_determine_the_world.Goals as goal

pub returns : goal.returns
returns g c = record {
  node = λ layout earlier other places w v words. one_world layout earlier other g.K.KnownNodes.knows g.L.KnownNodes.knows places w v words;
  reach = λ layout. same_reach layout g.K.KnownNodes.knows g.L.KnownNodes.knows;
}
