-- The beginning of marking: nothing is marked yet, and the roots are the snapshot's.
use Rattle.std.specs.Prelude.{ℕ, ◌*◌, ◌+◌, ◌/◌, List, map, take, drop, Contains, ◌≡◌, ◌↔◌}
use Rattle.std.specs.List.{flat_map}
use Rattle.nmgc_world_spec.specs.{declared.mutator_state.MutatorState.MutatorState, World.World, Known.IsWorld, Reach.strong_fields}
use Rattle.nmgc_limits.specs.declared.mutators.TheConstants.{SHARED_SLOTS}
use Rattle.nmgc_object.specs.{FinQueue.FinQueue, declared.layout.Layout.Layout, declared.layout.TheConstants.SHARED_PLACE, declared.size.TheConstants.HEADER_WORDS, declared.size.TheConstants.MIN_BLOCK_WORDS}
use Rattle.nmgc_alloc.specs.{AllocState.Segments, AllocState.AllocState, AllocState.StandsFor, Segments.IsSegments, Blocks.IsMarkedAt, Blocks.IsSnapshotAt, Blocks.IsUsedAt}
use Rattle.nmgc_heap_spec.specs.{Objects.Place, Objects.ListMeans, Objects.shared_place, Represents.Represents, Represents.NoNode, Roots.RepresentsRoots}
use Rattle.nmgc_round.specs.View.{Opening}
use Rattle.nmgc_stop_spec.specs.Cycle.{IsPlaceAtStop}
use Rattle.nmgc_mark.specs.Tie.{IsRightSnapshot}

-- the words in the slots of g
abbrev pub slots_of : List ℕ → List ℕ
slots_of words = take SHARED_SLOTS (drop (SHARED_PLACE + HEADER_WORDS) words)

-- the words of all finaliser queues in order
abbrev pub queue_words : List FinQueue → List ℕ
queue_words queues = flat_map (λ (q : FinQueue). q.words) queues

-- the most blocks that can be in use in a heap of the layout
abbrev pub most_blocks : Layout → ℕ
most_blocks layout = layout.segments * layout.words / MIN_BLOCK_WORDS

-- the beginning of marking: no block has the epoch's mark; registers, queues and slots of g represent the snapshot's roots
pub record IsBeginning (o : Opening) (s : Segments) (epoch : ℕ) (words registers : List ℕ) (queues : List FinQueue) : Type 0 where
  pub right : IsRightSnapshot o s
  pub shared : Contains o.places shared_place
  pub unmarked : (at : ℕ) → IsMarkedAt s epoch at → ⊥
  pub registers_are : ListMeans (Contains o.places) registers (flat_map (λ (state : MutatorState). state.registers) o.core.snapshot.mutators)
  pub queues_are : ListMeans (Contains o.places) (queue_words queues) (flat_map (λ (state : MutatorState). state.queue) o.core.snapshot.mutators)
  pub slots_are : ListMeans (Contains o.places) (slots_of words) (strong_fields o.core.snapshot.shared)

-- a heap at a stop whose segments were just prepared for a cycle. Words and roots represent the snapshot. The objects in use
-- are g and the blocks in use, and exactly these blocks are in the snapshot. No mark byte is the epoch.
pub record IsPrepared (o : Opening) (s : Segments) (epoch : ℕ) (words registers : List ℕ) (queues : List FinQueue) : Type 0 where
  pub world : IsWorld o.core.snapshot
  pub earlier : List World
  pub represents : Represents o.layout earlier NoNode o.places o.core.snapshot words
  pub serials : List ℕ
  pub roots : RepresentsRoots o.places o.core.snapshot registers (map (λ (q : FinQueue). q.words) queues) serials
  pub sound : IsSegments s
  pub layout : s.layout ≡ o.layout
  pub allocation : AllocState
  pub stands : StandsFor s words allocation
  pub places : (p : Place) → Contains o.places p ↔ IsPlaceAtStop o.layout allocation p
  pub in_use : (at : ℕ) → IsSnapshotAt s at ↔ IsUsedAt s at
  pub unmarked : (at : ℕ) → IsMarkedAt s epoch at → ⊥
