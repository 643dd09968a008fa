use Rattle.nmgc_barrier_laws.specs.laws.FieldMarking.{field_theorem}
use Rattle.nmgc_barrier_laws.proofs.laws.a_marker_beside_fields_is_exact.Goals as goal

pub returns : goal.returns
returns c = field_theorem
