use Rattle.nmgc_collector_laws.proofs.rounds.Stops.{stopped}
use Rattle.nmgc_collector_laws.proofs.idle.a_round_leaves_a_heap_at_a_stop.Goals as goal

pub returns : goal.returns
returns c = stopped c.events_are_a_history.ensures c.roots_are_represented.ensures c.new_objects_are_in_order.ensures c.promotion_fields_are_recorded.ensures
