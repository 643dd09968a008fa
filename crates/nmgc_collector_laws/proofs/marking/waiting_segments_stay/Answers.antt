use Rattle.nmgc_collector_laws.proofs.cycles.Sweeping.{marked_wait, placed_wait, sweeping_stays, settled_stays}
use Rattle.nmgc_collector_laws.proofs.marking.waiting_segments_stay.Goals as goal

pub returns-clause-marked : goal.returns-clause-marked
returns-clause-marked c = marked_wait

pub returns-clause-placed : goal.returns-clause-placed
returns-clause-placed c = placed_wait

pub returns-clause-stays : goal.returns-clause-stays
returns-clause-stays c = sweeping_stays

pub returns-clause-settled : goal.returns-clause-settled
returns-clause-settled c = settled_stays
