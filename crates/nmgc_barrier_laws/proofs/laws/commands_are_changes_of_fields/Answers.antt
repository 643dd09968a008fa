use Rattle.nmgc_barrier_laws.specs.laws.FieldMarking.{commands_are_changes}
use Rattle.nmgc_barrier_laws.proofs.laws.commands_are_changes_of_fields.Goals as goal

pub returns : goal.returns
returns c = commands_are_changes
