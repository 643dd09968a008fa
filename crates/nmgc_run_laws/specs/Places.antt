-- The places of a heap are its blocks in use: one statement, `AreBlocks`, for the run and for promotion.
use Rattle.std.specs.Prelude.{ℕ, ◌≡◌, ◌↔◌, ◌<◌, List, Contains}
use Rattle.nmgc_world_spec.specs.World.{World}
use Rattle.nmgc_object.specs.{declared.layout.Layout.Layout, Words.nursery_place}
use Rattle.nmgc_alloc.specs.{AllocState.Segments, AllocState.AllocState, AllocState.StandsFor, Segments.IsSegments}
use Rattle.nmgc_heap_spec.specs.{Objects.Place, Represents.Represents, Represents.NoNode}
use Rattle.nmgc_stop_spec.specs.{Occupied.AreBlocks, Cycle.IsPlaceAtStop}
use Rattle.nmgc_journal.specs.declared.report.MutatorEnd.{MutatorEnd}
use Rattle.nmgc_run_spec.specs.{Run.State, Heap.HoldsAtStop, AfterRound.HoldsAfterRound, Lawful.FitBlocks}

-- the law that at a stop the places are the blocks in use
abbrev pub BlocksAtStop : Type 0
BlocksAtStop = (layout : Layout) (s : State) (words : List ℕ) (segments : Segments) (mutators : List MutatorEnd) (weaks : List Place) →
    (h : HoldsAtStop layout s words segments mutators weaks) → AreBlocks segments (nursery_place layout 0) h.places s.world

-- the law that after a round the places below the nurseries are the blocks in use
abbrev pub BlocksAfterRound : Type 0
BlocksAfterRound = (layout : Layout) (s t : State) (places : List Place) (words : List ℕ) (segments : Segments) (mutators : List MutatorEnd)
    (weaks : List Place) → HoldsAfterRound layout s t places words segments mutators weaks → AreBlocks segments (nursery_place layout 0) places t.world

-- the law that a promotion leaves places as a stop needs them. If the places are the blocks in use and none lies in a
-- nursery, they are g and the blocks of the allocation state, and all objects fit their blocks
abbrev pub BlocksArePlaces : Type 0
BlocksArePlaces = (layout : Layout) (earlier : List World) (places : List Place) (w : World) (allocation : AllocState) (words : List ℕ)
    (segments : Segments) → Represents layout earlier NoNode places w words → IsSegments segments → segments.layout ≡ layout →
    StandsFor segments words allocation → ((p : Place) → Contains places p → p.at < nursery_place layout 0) →
    AreBlocks segments (nursery_place layout 0) places w → FitBlocks w allocation × ((p : Place) → Contains places p ↔ IsPlaceAtStop layout allocation p)
