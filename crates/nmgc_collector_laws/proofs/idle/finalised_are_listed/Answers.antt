use Rattle.nmgc_collector_laws.proofs.rounds.Remembered.{finalised_are_listed}
use Rattle.nmgc_collector_laws.proofs.idle.finalised_are_listed.Goals as goal

pub returns : goal.returns
returns c = finalised_are_listed c.events_are_a_history.ensures c.old_stacks_are_listed.ensures
