use Rattle.nmgc_heap_spec.specs.laws.CommandLaws.{step_is_one, step_changes_field}
use Rattle.nmgc_heap_spec.proofs.laws.command_is_one_change.Goals as goal

pub returns : goal.returns
returns c = record { step = step_is_one; field = step_changes_field }
