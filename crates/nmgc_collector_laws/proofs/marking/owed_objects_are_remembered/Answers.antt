use Rattle.nmgc_collector_laws.proofs.{cycles.Owing.slices_owed, cycles.Seats.seats_gathered}
use Rattle.nmgc_collector_laws.proofs.marking.owed_objects_are_remembered.Goals as goal

pub returns-clause-gathered : goal.returns-clause-gathered
returns-clause-gathered c = seats_gathered

pub returns-clause-owed : goal.returns-clause-owed
returns-clause-owed c = slices_owed
