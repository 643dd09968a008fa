use Rattle.nmgc_mark.proofs.Rooms.{blank_room}
use Rattle.nmgc_mark.proofs.laws.blank_markers_have_room.Goals as goal

pub returns : goal.returns
returns c = λ s epoch sound. blank_room s epoch sound
