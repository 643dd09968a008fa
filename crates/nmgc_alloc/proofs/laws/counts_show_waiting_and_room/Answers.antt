use Rattle.nmgc_alloc.specs.laws.Counts.{none_sweeping, sweeping_none, free_room}
use Rattle.nmgc_alloc.proofs.laws.counts_show_waiting_and_room.Goals as goal

pub returns-clause-sweeping : goal.returns-clause-sweeping
returns-clause-sweeping c = λ s. (none_sweeping s, sweeping_none s)

pub returns-clause-free : goal.returns-clause-free
returns-clause-free c = free_room
