-- A heap that represents a world between two rounds, and the opening of the next round.
use Rattle.std.specs.Prelude.{ℕ, ◌≡◌, ◌<◌, false, List, [], length, map, slice_get, Contains, Some}
use Rattle.nmgc_world_spec.specs.{World.World, Known.IsWorld}
use Rattle.nmgc_object.specs.declared.layout.Layout.{Layout}
use Rattle.nmgc_snapshot_laws.specs.State.{newest_first, unmarked}
use Rattle.nmgc_alloc.specs.{AllocState.Segments, Segments.IsSegments}
use Rattle.nmgc_heap_spec.specs.{Objects.Place, Represents.Represents, Represents.NoNode, Roots.RepresentsRoots}
use Rattle.nmgc_stop_spec.specs.{Occupied.AreBlocks, Stopped.young_base}
use Rattle.nmgc_round.specs.{View.Hand, View.Opening, Own.old_stacks}
use Rattle.nmgc_mutator.specs.{declared.mutator.Mutator.Mutator, Ready.IsWhole, Ready.IsUnused}
use Rattle.nmgc_collector_laws.specs.Worked.{registers_of, queues_of, serials_of}

-- a mutator's roots and stacks, for a round of this world with objects at these places
abbrev pub hand_of : World → List Place → Mutator → Hand
hand_of w places m = record { registers = m.registers; queue = m.queue.words; serial = m.serial; stacks = old_stacks places w m.number }

-- a mutator at a stop: it has its number, its layout and all its registers, an unused nursery, and no list for the stop
pub record IsResting (layout : Layout) (number : ℕ) (m : Mutator) : Type 0 where
  pub number_is : m.number ≡ number
  pub layout_is : m.layout ≡ layout
  pub whole : IsWhole m
  pub unused : IsUnused m
  pub no_recorded : m.recorded.items ≡ []
  pub no_weaks : m.young_weaks.items ≡ []
  pub no_finalised : m.finalised.items ≡ []

-- a heap at rest while no cycle marks: words, segments and mutators represent a world, with all objects below the nurseries
pub record IsAtRest (s : Segments) (places : List Place) (w : World) (words : List ℕ) (mutators : List Mutator) : Type 0 where
  pub world : IsWorld w
  pub sound : IsSegments s
  pub represents : Represents s.layout [] NoNode places w words
  pub roots : RepresentsRoots places w (registers_of mutators) (queues_of mutators) (serials_of mutators)
  pub blocks : AreBlocks s (young_base s) places w
  pub low : (p : Place) → Contains places p → p.at < young_base s
  pub count : length mutators ≡ s.layout.mutators
  pub mutators_are : (k : ℕ) (m : Mutator) → slice_get mutators k ≡ Some m → IsResting s.layout k m

-- the opening of a round from a heap at rest: no cycle marks, nothing is owed, and each mutator has its roots and serial
abbrev pub opening_at : Layout → World → List Place → List Mutator → Opening
opening_at layout w places mutators = record { layout = layout; marking = false; core = unmarked newest_first w; places = places; hands = map (hand_of w places) mutators }
