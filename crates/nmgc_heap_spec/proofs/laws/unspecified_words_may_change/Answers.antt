use Rattle.nmgc_heap_spec.specs.laws.Changes.{unborn_stored}
use Rattle.nmgc_heap_spec.proofs.laws.unspecified_words_may_change.Goals as goal

pub returns : goal.returns
returns g c = λ layout earlier. unborn_stored layout earlier g.K.KnownNodes.knows
