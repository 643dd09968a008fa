use Rattle.nmgc_heap_spec.proofs.Vocabulary.{represents_moved, roots_moved}
use Rattle.nmgc_heap_spec.proofs.laws.objects_may_move.Goals as goal

pub returns : goal.returns
returns g c = record {
  words = λ layout base later earlier. represents_moved layout base later earlier g.K.KnownNodes.knows;
  roots = λ layout base later earlier. roots_moved layout base later earlier g.K.KnownNodes.knows;
}
