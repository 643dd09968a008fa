use Rattle.nmgc_weak.proofs.{Closed.queues_close, Room.deaths_have_room}
use Rattle.nmgc_weak.proofs.laws.queues_close.Goals as goal

pub returns : goal.returns
returns c = record { room = deaths_have_room; closed = queues_close }
