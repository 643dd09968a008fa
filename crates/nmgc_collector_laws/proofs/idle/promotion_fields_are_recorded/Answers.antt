use Rattle.nmgc_collector_laws.proofs.rounds.Remembered.{round_is_remembered}
use Rattle.nmgc_collector_laws.proofs.idle.promotion_fields_are_recorded.Goals as goal

pub returns : goal.returns
returns c = round_is_remembered c.events_are_a_history.ensures c.old_stacks_are_listed.ensures
