-- The marker of a cycle is tied to a marking machine: events with the rows since the snapshot lead to its marks and queue.
use Rattle.std.specs.Prelude.{ℕ, ◌≡◌, ◌↔◌, ◌+◌, List, [], ◌∷◌, length, map, filter, Contains, IsSome, false, All}
use Rattle.nmgc_world_spec.specs.{declared.value.Name.Name, World.World, World.node_of}
use Rattle.nmgc_segment.specs.{Invariant.IsMarked, Invariant.InSnapshot, Marks.epoch_of}
use Rattle.nmgc_alloc.specs.AllocState.{nth, Segments, AllocState, LiesIn}
use Rattle.nmgc_heap_spec.specs.Objects.{Place}
use Rattle.nmgc_snapshot_laws.specs.{declared.event.Entry.Entry, declared.event.Event.Event, State.State as Core, State.newest_first, State.opening_in, Machine.AreEmpty, Machine.is_pushed_in, Run.Runs}
use Rattle.nmgc_stop_spec.specs.Cycle.{Cycle}
use Rattle.nmgc_run_spec.specs.Run.{owed}
use Rattle.nmgc_mark.specs.Seen.{MarkerSeen}

-- the addresses are the addresses of the names, in order
abbrev pub AreAt : List Place → List ℕ → List Name → Type 0
AreAt places [] [] = Unit {0}
AreAt places (at ∷ ats) (name ∷ names) = Contains places (record { at = at; name = name }) × AreAt places ats names
AreAt places _ _ = ⊥

-- a cycle's marking machine: events whose commands are the rows since the snapshot lead to it, and nothing is owed. The names
-- of the snapshot that the earlier rounds owed are marked
pub record IsCoreOf (c : Cycle) (w : World) (core : Core) : Type 0 where
  pub events : List Event
  pub runs : Runs (opening_in newest_first c.snapshot) events c.rows core
  pub open_yet : core.is_closed ≡ false
  pub world_is : core.world ≡ w
  pub nothing_owed : AreEmpty core.owed
  pub handed : (name : Name) → Contains (owed c.snapshot c.earlier) name → IsSome (node_of c.snapshot name) → Contains core.marked name

-- the remembered entries whose names are in the snapshot are exactly the names that the machine pushed for the mutator
pub record AreRemembered (c : Cycle) (places : List Place) (entries : List ℕ) (pushed : List Name) : Type 0 where
  pub names : List Name
  pub at : AreAt places entries names
  pub counted : filter (is_pushed_in c.snapshot) names ≡ pushed

-- a block is in the snapshot exactly if it is in use with a name of the snapshot
abbrev pub IsRightSnapshot : Cycle → AllocState → Segments → Type 0
IsRightSnapshot c allocation segments = (number block : ℕ) → InSnapshot (nth segments.segments number) block ↔
    ((name : Name) × LiesIn allocation number block name × IsSome (node_of c.snapshot name))

-- a block is marked with the epoch exactly if the machine has marked its name
abbrev pub AreMarked : Core → AllocState → Segments → ℕ → Type 0
AreMarked core allocation segments epoch = (number block : ℕ) (name : Name) → LiesIn allocation number block name →
    IsMarked (nth segments.segments number) epoch block ↔ Contains core.marked name

-- the object of the entry hasn't been read at all
abbrev pub IsUnread : Entry → Type 0
IsUnread entry = entry.position ≡ 0

-- the marker of a cycle has the marks and the queue of the machine, newest first. For the machine g counts as marked, and g
-- has no block
pub record IsTied (c : Cycle) (allocation : AllocState) (segments : Segments) (places : List Place) (marker : MarkerSeen) (core : Core) : Type 0 where
  pub epoch : marker.epoch ≡ epoch_of c.number
  pub snapshot : IsRightSnapshot c allocation segments
  pub marks : AreMarked core allocation segments marker.epoch
  pub order : core.order ≡ newest_first
  pub queue : AreAt places marker.queue (map (λ (entry : Entry). entry.name) core.queue)
  pub fresh : All IsUnread core.queue
  pub count : marker.marked + 1 ≡ length core.marked
