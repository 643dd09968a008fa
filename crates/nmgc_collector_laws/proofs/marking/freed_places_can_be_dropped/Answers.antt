use Rattle.nmgc_collector_laws.proofs.cycles.Dropping.{round_frees, stop_frees, free_grows, swept_holds_after_round, swept_holds_at_stop, drop_keeps_round}
use Rattle.nmgc_collector_laws.proofs.marking.freed_places_can_be_dropped.Goals as goal

pub returns-clause-round : goal.returns-clause-round
returns-clause-round c = round_frees

pub returns-clause-stop : goal.returns-clause-stop
returns-clause-stop c = stop_frees

pub returns-clause-free : goal.returns-clause-free
returns-clause-free c = free_grows

pub returns-clause-after_round : goal.returns-clause-after_round
returns-clause-after_round c = swept_holds_after_round

pub returns-clause-at_stop : goal.returns-clause-at_stop
returns-clause-at_stop c = swept_holds_at_stop

pub returns-clause-remembered : goal.returns-clause-remembered
returns-clause-remembered c = drop_keeps_round
