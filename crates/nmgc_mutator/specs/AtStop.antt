-- The lists of a round after its stop.
use Rattle.std.specs.Prelude.{◌+◌, [], length}
use Rattle.nmgc_lists.specs.Room.{Room}

-- a list without its items, which keeps its room
abbrev pub cleared : {T : Type 0} → Room T → Room T
cleared room = record { items = []; spare = room.spare + length room.items }
