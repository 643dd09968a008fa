use Rattle.nmgc_run_laws.specs.laws.Runs.{states_are_sound, rounds_are_sound, tracked_have_blocks}
use Rattle.nmgc_run_laws.proofs.laws.tracked_names_have_blocks.Goals as goal

pub returns-clause-states : goal.returns-clause-states
returns-clause-states c = states_are_sound

pub returns-clause-rounds : goal.returns-clause-rounds
returns-clause-rounds c = rounds_are_sound

pub returns-clause-blocks : goal.returns-clause-blocks
returns-clause-blocks c = tracked_have_blocks
