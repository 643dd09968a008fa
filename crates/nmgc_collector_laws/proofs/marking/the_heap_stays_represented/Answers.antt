use Rattle.nmgc_collector_laws.proofs.{cycles.RoundHeap.round_holds, cycles.RoundHeap.marked_holds, cycles.Stopping.heap_rests}
use Rattle.nmgc_collector_laws.proofs.marking.the_heap_stays_represented.Goals as goal

pub returns-clause-rests : goal.returns-clause-rests
returns-clause-rests c = heap_rests c.marks_are_of_the_snapshot.ensures c.ties_agree.ensures

pub returns-clause-round : goal.returns-clause-round
returns-clause-round c = round_holds

pub returns-clause-marked : goal.returns-clause-marked
returns-clause-marked c = marked_holds
