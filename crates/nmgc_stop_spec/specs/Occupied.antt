-- Blocks in use by address, the objects in these blocks, and marks that stay.
use Rattle.std.specs.Prelude.{ℕ, ◌≡◌, ◌≢◌, ◌<◌, ◌≤◌, List, Contains, Some}
use Rattle.nmgc_world_spec.specs.{declared.value.Name.Name, declared.node.Node.Node, World.World, World.node_of}
use Rattle.nmgc_limits.specs.declared.mutators.TheConstants.{SHARED_MAKER}
use Rattle.nmgc_object.specs.Words.{block_size}
use Rattle.nmgc_segment.specs.Segment.{InUse}
use Rattle.nmgc_alloc.specs.{AllocState.nth, AllocState.Segments, Segments.IsBlockAt}
use Rattle.nmgc_heap_spec.specs.Objects.{size_of, Place}

-- a block in use of `size` words begins at address `at`
pub record IsOccupied (s : Segments) (at size : ℕ) : Type 0 where
  pub number : ℕ
  pub block : ℕ
  pub begins : IsBlockAt s number block at
  pub used : InUse (nth s.segments number) block
  pub words : size ≡ block_size (nth s.segments number).class

-- below the nurseries, exactly the blocks in use are places of objects except g. Each object fits its block, tracked or not
pub record AreBlocks (s : Segments) (base : ℕ) (places : List Place) (w : World) : Type 0 where
  pub held : (p : Place) (node : Node) → Contains places p → p.at < base → p.name.maker ≢ SHARED_MAKER → node_of w p.name ≡ Some node → (size : ℕ) ×
      IsOccupied s p.at size × (size_of node ≤ size)
  pub filled : (at size : ℕ) → IsOccupied s at size → (name : Name) × Contains places (record { at = at; name = name })

-- marks stay: no mark byte and no snapshot index of any segment changes
pub record KeepsMarks (old new : Segments) : Type 0 where
  pub marks : (number : ℕ) → (nth new.segments number).marks ≡ (nth old.segments number).marks
  pub snap : (number : ℕ) → (nth new.segments number).snap ≡ (nth old.segments number).snap
