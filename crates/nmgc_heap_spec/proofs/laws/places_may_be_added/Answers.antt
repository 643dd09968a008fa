use Rattle.nmgc_heap_spec.proofs.Vocabulary.{places_added, roots_added}
use Rattle.nmgc_heap_spec.proofs.laws.places_may_be_added.Goals as goal

pub returns : goal.returns
returns g c = record { words = λ layout earlier. places_added layout earlier g.K.KnownNodes.knows; roots = roots_added }
