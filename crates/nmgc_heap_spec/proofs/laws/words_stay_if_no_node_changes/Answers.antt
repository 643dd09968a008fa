use Rattle.nmgc_heap_spec.specs.laws.Changes.{same_heap}
use Rattle.nmgc_heap_spec.proofs.laws.words_stay_if_no_node_changes.Goals as goal

pub returns : goal.returns
returns g c = λ layout earlier. same_heap layout earlier g.K.KnownNodes.knows
