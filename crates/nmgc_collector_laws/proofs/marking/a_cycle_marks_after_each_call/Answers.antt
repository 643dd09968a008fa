use Rattle.nmgc_collector_laws.proofs.cycles.Calling.{snapshot_is_marking, round_is_marking, add_is_marking}
use Rattle.nmgc_collector_laws.proofs.marking.a_cycle_marks_after_each_call.Goals as goal

pub returns-clause-snapshot : goal.returns-clause-snapshot
returns-clause-snapshot c = snapshot_is_marking c.marks_are_of_the_snapshot.ensures c.ties_agree.ensures

pub returns-clause-round : goal.returns-clause-round
returns-clause-round c = round_is_marking c.marks_are_of_the_snapshot.ensures c.ties_agree.ensures c.a_round_ends_tied.ensures

pub returns-clause-add : goal.returns-clause-add
returns-clause-add c = add_is_marking c.marks_are_of_the_snapshot.ensures c.ties_agree.ensures
