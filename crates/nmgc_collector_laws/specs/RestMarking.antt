-- A heap that represents a world between two rounds of a marking cycle, and the opening of the next round.
use Rattle.std.specs.Prelude.{ℕ, ◌≡◌, ◌<◌, true, List, [], ◌∷◌, ◌++◌, length, map, slice_get, Contains, Some, All}
use Rattle.nmgc_world_spec.specs.{World.World, Known.IsWorld, Reach.Row}
use Rattle.nmgc_world_laws.specs.Reachable.{IsSound}
use Rattle.nmgc_object.specs.declared.layout.Layout.{Layout}
use Rattle.nmgc_snapshot_laws.specs.{declared.event.Entry.Entry, Machine.AreEmpty, State.State as Core}
use Rattle.nmgc_alloc.specs.{AllocState.Segments, Segments.IsSegments}
use Rattle.nmgc_heap_spec.specs.{Objects.Place, Changes.AreEarlier, Represents.Represents, Represents.NoNode, Roots.RepresentsRoots}
use Rattle.nmgc_stop_spec.specs.{Occupied.AreBlocks, Stopped.young_base, Kept.interval_of, Cycle.Cycle}
use Rattle.nmgc_round.specs.{View.Opening, Objects.earlier, Starting.CanOpen}
use Rattle.nmgc_mutator.specs.declared.mutator.Mutator.{Mutator}
use Rattle.nmgc_collector_laws.specs.{Rest.hand_of, Rest.IsResting, Worked.registers_of, Worked.queues_of, Worked.serials_of, Marker.AreAt, Marker.IsCoreOf, Marker.IsUnread}

-- the cycle with further rows
abbrev pub with_rows : Cycle → List Row → Cycle
with_rows c rows = record c { rows = c.rows ++ rows; earlier = c.rows }

-- a machine at rest at a stop: the cycle's rows lead to the world, nothing is owed or pushed, and no queued object was read
pub record IsMachineAtRest (c : Cycle) (w : World) (core : Core) : Type 0 where
  pub sound : IsSound (interval_of c)
  pub machine : IsCoreOf c w core
  pub none_pushed : AreEmpty core.pushed
  pub fresh : All IsUnread core.queue

-- a heap at rest beside a marking cycle: the collector also uses the snapshot, and entries that wait are at known places
pub record IsAtRestMarking (c : Cycle) (core : Core) (s : Segments) (places : List Place) (w : World) (words : List ℕ) (mutators : List Mutator)
    (queue : List ℕ) : Type 0 where
  pub world : IsWorld w
  pub machine : IsMachineAtRest c w core
  pub sound : IsSegments s
  pub represents : Represents s.layout (c.snapshot ∷ []) NoNode places w words
  pub roots : RepresentsRoots places w (registers_of mutators) (queues_of mutators) (serials_of mutators)
  pub blocks : AreBlocks s (young_base s) places w
  pub low : (p : Place) → Contains places p → p.at < young_base s
  pub count : length mutators ≡ s.layout.mutators
  pub mutators_are : (k : ℕ) (m : Mutator) → slice_get mutators k ≡ Some m → IsResting s.layout k m
  pub waits : AreAt places queue (map (λ (entry : Entry). entry.name) core.queue)

-- the opening of a round from a heap at rest beside a marking cycle: a cycle marks, with the machine's state
abbrev pub opening_beside : Layout → Core → List Place → List Mutator → Opening
opening_beside layout core places mutators = record {
  layout = layout;
  marking = true;
  core = core;
  places = places;
  hands = map (hand_of core.world places) mutators;
}

-- the law that a heap at rest beside a marking cycle opens a round, and the collector may use the snapshot in this round
abbrev pub RestOpens : Type 0
RestOpens = (c : Cycle) (core : Core) (s : Segments) (places : List Place) (w : World) (words : List ℕ) (mutators : List Mutator) (queue : List ℕ) →
    IsAtRestMarking c core s places w words mutators queue →
    let o = opening_beside s.layout core places mutators in CanOpen o words × AreEarlier (earlier o) o.core.world
