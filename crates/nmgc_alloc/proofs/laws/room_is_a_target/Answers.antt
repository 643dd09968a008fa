use Rattle.nmgc_alloc.specs.laws.Room.{room_is_target}
use Rattle.nmgc_alloc.proofs.laws.room_is_a_target.Goals as goal

pub returns : goal.returns
returns c = room_is_target
