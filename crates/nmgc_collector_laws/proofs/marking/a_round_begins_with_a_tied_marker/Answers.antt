use Rattle.nmgc_collector_laws.proofs.cycles.Tying.{core_snapshot, round_begins}
use Rattle.nmgc_collector_laws.proofs.marking.a_round_begins_with_a_tied_marker.Goals as goal

pub returns-clause-snapshot : goal.returns-clause-snapshot
returns-clause-snapshot c = core_snapshot

pub returns-clause-begins : goal.returns-clause-begins
returns-clause-begins c = round_begins c.marks_are_of_the_snapshot.ensures c.ties_agree.ensures c.a_round_begins_tied.ensures
