use Rattle.nmgc_heap_spec.specs.laws.Births.{object_born}
use Rattle.nmgc_heap_spec.proofs.laws.objects_may_be_made.Goals as goal

pub returns : goal.returns
returns g c = λ layout earlier. object_born layout earlier g.K.KnownNodes.knows g.L.KnownNodes.knows
