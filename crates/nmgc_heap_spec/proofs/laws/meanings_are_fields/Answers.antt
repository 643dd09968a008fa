use Rattle.nmgc_heap_spec.specs.laws.Decoding.{meaning_is_field, field_has_meaning}
use Rattle.nmgc_heap_spec.proofs.laws.meanings_are_fields.Goals as goal

pub returns : goal.returns
returns g c = record { word = meaning_is_field g.K.KnownNodes.knows; field = field_has_meaning }
