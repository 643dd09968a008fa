use Rattle.nmgc_heap_spec.proofs.Vocabulary.{places_dropped, agreeing, roots_dropped}
use Rattle.nmgc_heap_spec.proofs.laws.places_may_be_dropped.Goals as goal

pub returns : goal.returns
returns g c = record {
  words = λ layout earlier. places_dropped layout earlier g.K.KnownNodes.knows;
  roots = λ earlier. roots_dropped earlier g.K.KnownNodes.knows;
  rest = λ layout earlier. agreeing layout earlier g.K.KnownNodes.knows;
}
