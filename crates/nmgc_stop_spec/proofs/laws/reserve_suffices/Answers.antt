use Rattle.nmgc_stop_spec.proofs.RoomLaws.{reserve_suffices}
use Rattle.nmgc_stop_spec.proofs.laws.reserve_suffices.Goals as goal

pub returns : goal.returns
returns c = reserve_suffices
