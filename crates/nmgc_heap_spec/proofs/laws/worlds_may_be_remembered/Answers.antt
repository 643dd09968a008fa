use Rattle.nmgc_heap_spec.specs.laws.Changes.{remembered}
use Rattle.nmgc_heap_spec.proofs.laws.worlds_may_be_remembered.Goals as goal

pub returns : goal.returns
returns g c = λ layout earlier later. remembered layout earlier later g.K.KnownNodes.knows g.L.KnownNodes.knows
