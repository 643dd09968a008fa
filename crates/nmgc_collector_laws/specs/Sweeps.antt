-- Marks when a cycle begins to sweep, and a sweeping cycle over a promotion.
use Rattle.std.specs.Prelude.{ℕ, ◌↔◌, List, map}
use Rattle.nmgc_world_spec.specs.{declared.value.Name.Name, World.World}
use Rattle.nmgc_object.specs.declared.layout.Layout.{Layout}
use Rattle.nmgc_alloc.specs.{AllocState.Segments, AllocState.AllocState, AllocState.StandsFor, Segments.IsWaiting, AllocState.carried_over, Settled.AreSettled}
use Rattle.nmgc_stop_spec.specs.{Occupied.KeepsMarks, Cycle.PlacesEach, Cycle.Cycle}
use Rattle.nmgc_sweep.specs.{Sweeping.IsSweeping, Seen.CycleSeen, Seen.SweeperSeen}

-- the segments once a cycle is closed: marks are carried over in the segments that don't wait
abbrev pub all_carried : ℕ → Segments → Segments
all_carried epoch s = record s { segments = map (carried_over epoch) s.segments }

-- names were placed, and no mark byte changed
pub record HasPlaced (old new : Segments) (words after : List ℕ) (allocation placed : AllocState) : Type 0 where
  pub layout : Layout
  pub world : World
  pub names : List Name
  pub stood : StandsFor old words allocation
  pub stands : StandsFor new after placed
  pub places_each : PlacesEach layout world allocation names placed
  pub marks : KeepsMarks old new

-- the laws that the same segments wait after only marks change, by a marker or a carry, and after a promotion
abbrev pub MarkedWait : Type 0
MarkedWait = (old new : Segments) (words after : List ℕ) (allocation : AllocState) → StandsFor old words allocation →
    StandsFor new after allocation → (number : ℕ) → IsWaiting new number ↔ IsWaiting old number

abbrev pub PlacedWait : Type 0
PlacedWait = (old new : Segments) (words after : List ℕ) (allocation placed : AllocState) → HasPlaced old new words after allocation placed →
    (number : ℕ) → IsWaiting new number ↔ IsWaiting old number

-- the laws that a promotion touches no waiting segment, so the cycle sweeps as before, and that marks stay settled
abbrev pub SweepingStays : Type 0
SweepingStays = (c : Cycle) (closed : ℕ) (old new : Segments) (words after : List ℕ) (allocation placed : AllocState) (cycle : CycleSeen)
    (sweeper : SweeperSeen) → HasPlaced old new words after allocation placed → IsSweeping c closed allocation old cycle sweeper →
    IsSweeping c closed placed new cycle sweeper

abbrev pub SettledStays : Type 0
SettledStays = (begun : ℕ) (old new : Segments) (words after : List ℕ) (allocation placed : AllocState) →
    HasPlaced old new words after allocation placed → AreSettled begun old → AreSettled begun new
