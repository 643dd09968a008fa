-- Several markers against the one marker of a cycle: from the registers and queues of a snapshot they mark the same objects.
use Rattle.std.specs.Prelude.{ℕ, ◌≡◌, ◌≢◌, ◌↔◌, List, slice_get, Some, Contains}
use Rattle.nmgc_world_spec.specs.{declared.value.Name.Name, Known.IsWorld, World.shared_name}
use Rattle.nmgc_snapshot_laws.specs.State.{newest_first, opening_in}
use Rattle.nmgc_alloc.specs.{AllocState.Segments, Blocks.IsSnapshotAt, Blocks.IsMarkedAt}
use Rattle.nmgc_heap_spec.specs.Objects.{Place}
use Rattle.nmgc_round.specs.View.{Opening}
use Rattle.nmgc_mark.specs.{Seen.MarkerSeen, Stopped.HasFinished}
use Rattle.nmgc_pmark.specs.{Claims.AreClaims, Strong.roots_of}

-- the name is in some marker's list
abbrev pub IsClaimed : List (List Name) → Name → Type 0
IsClaimed by name = (k : ℕ) × (names : List Name) × (slice_get by k ≡ Some names) × Contains names name

-- the one marker, done at the stop of its snapshot: marking began there, only scans happened since, and nothing is queued
pub record IsMarkedAlone (o : Opening) (s : Segments) (marker : MarkerSeen) : Type 0 where
  pub world : IsWorld o.core.snapshot
  pub begun : o.core ≡ opening_in newest_first o.core.snapshot
  pub finished : HasFinished o s marker

-- the law of one marker and several: suppose that the one marker began at a snapshot and scanned to its end. Then the block
-- of each object of the snapshot except g is marked exactly if one of several markers lists its name.
abbrev pub MarksTheSame : Type 0
MarksTheSame = (o : Opening) (s : Segments) (marker : MarkerSeen) (markers : ℕ) (by : List (List Name)) → IsMarkedAlone o s marker →
    AreClaims o.core.snapshot (roots_of o.core.snapshot) markers by → (p : Place) → Contains o.places p → IsSnapshotAt s p.at →
    p.name ≢ shared_name → IsMarkedAt s marker.epoch p.at ↔ IsClaimed by p.name
