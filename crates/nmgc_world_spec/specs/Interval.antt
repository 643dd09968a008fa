-- Dead weak pointers and kept names after some commands, judged by the snapshot with which the commands began.
use Rattle.std.specs.Prelude.{List}
use Rattle.nmgc_world_spec.specs.{World.World, Reach.Row, Reach.opened, Reach.finalised, Reach.IsDead, Reach.IsKept, declared.value.Name.Name}

-- an interval: a snapshot, and the commands since
pub record Interval : Type 0 where
  pub snapshot : World
  pub rows : List Row

-- the weak pointer is dead after the interval: dead in the snapshot, with the names that the commands opened and finalised
abbrev pub IsDeadAfter : Interval → Name → Type 0
IsDeadAfter i weak = IsDead i.snapshot (opened i.snapshot i.rows) (finalised i.snapshot i.rows) weak

-- the name is kept after the interval: kept in the snapshot, with the names that the commands opened and finalised
abbrev pub IsKeptAfter : Interval → Name → Type 0
IsKeptAfter i name = IsKept i.snapshot (opened i.snapshot i.rows) (finalised i.snapshot i.rows) name
