use Rattle.nmgc_alloc.specs.laws.Reserve.{begins, placing_keeps, reserve_has_room}
use Rattle.nmgc_alloc.proofs.laws.reserve_suffices.Goals as goal

pub returns-clause-begins : goal.returns-clause-begins
returns-clause-begins c = λ layout segments size. begins layout size segments

pub returns-clause-keeps : goal.returns-clause-keeps
returns-clause-keeps c = placing_keeps

pub returns-clause-room : goal.returns-clause-room
returns-clause-room c = reserve_has_room
