-- The interval of a cycle and the objects that it keeps, for laws and for the contracts of the collector's steps.
use Rattle.nmgc_world_spec.specs.{declared.value.Name.Name, Interval.Interval}
use Rattle.nmgc_stop_spec.specs.Cycle.{Cycle, IsKeptIn, ExceptShared}

-- a cycle's snapshot, and the commands from the snapshot to the closing
abbrev pub interval_of : Cycle → Interval
interval_of c = record { snapshot = c.snapshot; rows = c.rows }

-- an object other than g that the cycle keeps
abbrev pub IsKeptObject : Cycle → Name → Type 0
IsKeptObject c = ExceptShared (IsKeptIn c)
