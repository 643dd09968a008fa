-- No command changes the header of an object.
use Rattle.std.specs.Prelude.{List}
use Rattle.nmgc_world_spec.specs.{World.World, Known.IsWorld, Reach.Row, Reach.replayed}
use Rattle.nmgc_world_laws.specs.Reachable.{CanReplay}
use Rattle.nmgc_heap_spec.specs.Changes.{IsEarlier}

-- the law that no command changes the header of an object
abbrev pub RowsKeepHeaders : Type 0
RowsKeepHeaders = (w : World) (rows : List Row) → IsWorld w → CanReplay w rows → IsEarlier w (replayed w rows)
