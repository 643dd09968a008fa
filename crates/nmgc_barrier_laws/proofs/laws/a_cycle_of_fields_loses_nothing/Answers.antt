use Rattle.nmgc_barrier_laws.specs.laws.FieldMarking.{field_safety}
use Rattle.nmgc_barrier_laws.proofs.laws.a_cycle_of_fields_loses_nothing.Goals as goal

pub returns : goal.returns
returns c = field_safety
