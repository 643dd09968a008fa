-- The tie by places is a run's tie by blocks, if the blocks with names are the places.
use Rattle.std.specs.Prelude.{ℕ, ◌≡◌, ◌⊎◌, ◌↔◌, List, Contains, IsSome}
use Rattle.nmgc_world_spec.specs.{declared.value.Name.Name, World.node_of, World.shared_name}
use Rattle.nmgc_snapshot_laws.specs.State.{State}
use Rattle.nmgc_alloc.specs.{AllocState.Segments, AllocState.block_place, AllocState.AllocState, AllocState.LiesIn, AllocState.cells, AllocState.StandsFor, Segments.IsSegments}
use Rattle.nmgc_heap_spec.specs.Objects.{Place, shared_place}
use Rattle.nmgc_round.specs.{View.Opening, Marking.marks_of}
use Rattle.nmgc_stop_spec.specs.Cycle.{Cycle, IsBlockPlace}
use Rattle.nmgc_segment.specs.Marks.{epoch_of}
use Rattle.nmgc_collector_laws.specs.Marker.{IsTied as IsTiedByBlocks}
use Rattle.nmgc_mark.specs.{Seen.MarkerSeen, Tie.AreApart, Tie.IsTied}

-- places of blocks: g and each named block have places, and each place with a name of the snapshot is one of these. This
-- holds at a stop and after a round, since no snapshot has new objects. The machine marked only g and the snapshot's names
pub record AreOfBlocks (o : Opening) (c : Cycle) (s : Segments) (words : List ℕ) (allocation : AllocState) (core : State) : Type 0 where
  pub sound : IsSegments s
  pub stands : StandsFor s words allocation
  pub layout : s.layout ≡ o.layout
  pub cycle : c.snapshot ≡ o.core.snapshot
  pub apart : AreApart o.layout o.places
  pub shared : Contains o.places shared_place
  pub blocks : (number block : ℕ) (name : Name) → LiesIn allocation number block name →
      Contains o.places (record { at = block_place o.layout number (cells allocation number).class block; name = name })
  pub named : (p : Place) → Contains o.places p → IsSome (node_of o.core.snapshot p.name) → (p ≡ shared_place) ⊎ IsBlockPlace o.layout allocation p
  pub marked : (name : Name) → Contains core.marked name → IsSome (node_of o.core.snapshot name)
  pub shared_marked : Contains core.marked shared_name

-- the law that the tie by places is a run's tie by blocks
abbrev pub TiesAgree : Type 0
TiesAgree = (o : Opening) (c : Cycle) (s : Segments) (words : List ℕ) (allocation : AllocState) (core : State) (marker : MarkerSeen) →
    AreOfBlocks o c s words allocation core → IsTiedByBlocks c allocation s o.places marker core ↔
    ((marker.epoch ≡ epoch_of c.number) × IsTied o (marks_of core) s marker)
