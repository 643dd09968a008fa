-- The tie of a marker to the marking machine: both have the same marks and the same queue. The laws of a run state the tie
-- over blocks, and the contracts of the marker state it over places.
use Rattle.std.specs.Prelude.{ℕ, ◌≡◌, List}
use Rattle.nmgc_world_spec.specs.World.{World}
use Rattle.nmgc_world_laws.specs.Reachable.{IsSound}
use Rattle.nmgc_object.specs.declared.layout.Layout.{Layout}
use Rattle.nmgc_snapshot_laws.specs.State.{State as Core}
use Rattle.nmgc_alloc.specs.{AllocState.Segments, Segments.IsSegments}
use Rattle.nmgc_heap_spec.specs.Objects.{Place}
use Rattle.nmgc_journal.specs.declared.report.MutatorEnd.{MutatorEnd}
use Rattle.nmgc_round.specs.{Seating.collecting, View.Opening, View.whole}
use Rattle.nmgc_stop_spec.specs.Cycle.{Cycle}
use Rattle.nmgc_stop_spec.specs.Kept.{interval_of}
use Rattle.nmgc_run_spec.specs.{Heap.HoldsAtStop, Run.State}
use Rattle.nmgc_collector_laws.specs.Marker.{IsCoreOf, IsTied}
use Rattle.nmgc_mark.specs.{Seen.MarkerSeen, Tie.IsTied as IsTiedByPlaces, Work.marks_seen}

-- the law that the snapshot of a cycle's marking machine is the cycle's snapshot
abbrev pub CoreHasSnapshot : Type 0
CoreHasSnapshot = (c : Cycle) (w : World) (core : Core) → IsSound (interval_of c) → IsCoreOf c w core → core.snapshot ≡ c.snapshot

-- the law that a round's beginning keeps the tie. If a round begins with the heap of a stop and the machine's state, the
-- places are the blocks. So a marker tied to the machine by blocks is tied by places to the view of the collector's seat
abbrev pub RoundBeginsTied : Type 0
RoundBeginsTied = (layout : Layout) (s : State) (words : List ℕ) (segments : Segments) (ends : List MutatorEnd) (weaks : List Place) (c : Cycle)
    (o : Opening) (marker : MarkerSeen) → (h : HoldsAtStop layout s words segments ends weaks) → IsSegments segments → IsSound (interval_of c) →
    IsCoreOf c s.world o.core → o.layout ≡ layout → o.places ≡ h.places → IsTied c s.allocation segments o.places marker o.core →
    IsTiedByPlaces o (marks_seen (collecting (whole o))) segments marker
