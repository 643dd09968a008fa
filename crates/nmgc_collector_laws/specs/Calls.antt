-- The marker's calls, by their own contracts: the facts about the cycle that a collector keeps after each call.
use Rattle.std.specs.{Prelude.ℕ, Prelude.◌≡◌, Prelude.◌+◌, Prelude.◌≤◌, Prelude.List, Prelude.length, List.flat_map}
use Rattle.nmgc_world_spec.specs.Known.{IsWorld}
use Rattle.nmgc_world_laws.specs.Reachable.{IsSound}
use Rattle.nmgc_object.specs.declared.layout.Layout.{Layout}
use Rattle.nmgc_snapshot_laws.specs.State.{State as Core, newest_first, opening_in}
use Rattle.nmgc_alloc.specs.{AllocState.Segments, Segments.IsSegments}
use Rattle.nmgc_heap_spec.specs.Objects.{Place}
use Rattle.nmgc_journal.specs.declared.report.MutatorEnd.{MutatorEnd}
use Rattle.nmgc_round.specs.{Events.rows_in, Finishing.IsFinished, Finishing.places_then, Rule.now, Seat.RoundSeat, View.Opening, View.Scan, Marking.Marks, Marking.marks_of, Marking.marks_after}
use Rattle.nmgc_mutator.specs.declared.mutator.Mutator.{Mutator}
use Rattle.nmgc_collector_laws.specs.{Worked.Done, Collector.EachMutator, Collector.IsMarking, Seen.CollectorSeen, Seen.MutatorSeen, Prepares.all_prepared, Keeps.HasLeft, Keeps.NoneRemember, Keeps.ShowEntries, Owed.GoesOn, Owed.IsGathered, Owed.gathered, RestMarking.with_rows, Collector.HasFound}
use Rattle.nmgc_stop_spec.specs.Cycle.{Cycle}
use Rattle.nmgc_stop_spec.specs.Kept.{interval_of}
use Rattle.nmgc_weak.specs.Queues.{weak_count}
use Rattle.nmgc_run_spec.specs.{Heap.HoldsAtStop, Run.State, Run.next_cycle, Run.cycle_started}
use Rattle.nmgc_sweep.specs.Sweeping.{HasListedNothing, HasNoted}
use Rattle.nmgc_segment.specs.Marks.{epoch_of}
use Rattle.nmgc_mark.specs.{Marker.HasMarked, Marker.blank, Tie.IsTied as IsTiedByPlaces, Tie.with_places}

-- the addresses that mutators remember, one mutator after the other
abbrev pub all_entries : List MutatorSeen → List ℕ
all_entries mutators = flat_map (λ (m : MutatorSeen). m.entries) mutators

-- the law that a cycle is marking once the marker took the snapshot of a heap at a stop
abbrev pub SnapshotIsMarking : Type 0
SnapshotIsMarking = (layout : Layout) (s : State) (words : List ℕ) (old : Segments) (new : CollectorSeen) (ends : List MutatorEnd) (weaks : List Place)
    (o : Opening) (spare : ℕ) → (h : HoldsAtStop layout s words old ends weaks) → IsWorld s.world → IsSegments new.segments
    → o.layout ≡ layout → o.places ≡ h.places → o.core.snapshot ≡ s.world
    → HasMarked (all_prepared old) new.segments (blank (epoch_of (s.begun + 1)) spare) new.marker 0 →
    IsTiedByPlaces o (marks_of (opening_in newest_first o.core.snapshot)) new.segments new.marker
    → EachMutator new (λ m mutator. weak_count s.world m new.weaks ≤ mutator.queue.spare) → NoneRemember new → new.cycle.from ≡ s.number →
    HasNoted (next_cycle s) new.sweeper → HasListedNothing new.sweeper
    → IsMarking (next_cycle s) (cycle_started s) new h.places

-- the law that after the marker's work in a round the cycle is still marking, with the round's rows and remembered entries.
-- All marked objects are found
abbrev pub RoundIsMarking : Type 0
RoundIsMarking = (layout : Layout) (c : Cycle) (s t : State) (old new : CollectorSeen) (before after : List ℕ) (ends : List MutatorEnd) (weaks : List Place)
    (o : Opening) (scans : List Scan) (seats : List RoundSeat) (mutators : List Mutator) (done : List (List Done)) (core : Core) (scanned : ℕ) →
    (h : HoldsAtStop layout s before old.segments ends weaks) → (f : IsFinished o after (gathered o scans seats)) → IsSegments new.segments →
    IsSound (interval_of (with_rows c (rows_in f.events))) → IsMarking c s old h.places
    → o.layout ≡ layout → o.places ≡ h.places → o.core.snapshot ≡ c.snapshot → t.world ≡ (now o f.events).world → t.allocation ≡ s.allocation
    → IsGathered o scans seats mutators done → GoesOn c o after (gathered o scans seats) f mutators core
    → HasMarked old.segments new.segments old.marker new.marker scanned → IsTiedByPlaces o (marks_after o scans) new.segments new.marker →
    HasLeft c old new → ShowEntries new mutators
    → IsMarking (with_rows c (rows_in f.events)) t new (places_then o f.born) × HasFound (with_rows c (rows_in f.events)) new.marker

-- the law that the cycle is still marking, and nothing is remembered, after the marker added all remembered entries
abbrev pub AddIsMarking : Type 0
AddIsMarking = (layout : Layout) (c : Cycle) (s : State) (old new : CollectorSeen) (words : List ℕ) (ends : List MutatorEnd) (weaks : List Place) →
    (h : HoldsAtStop layout s words old.segments ends weaks) → IsSegments old.segments → IsSegments new.segments → IsSound (interval_of c) →
    length old.mutators ≡ length s.world.mutators → IsMarking c s old h.places
    → HasMarked old.segments new.segments old.marker new.marker 0 →
    ((o : Opening) (m : Marks) → IsTiedByPlaces o m old.segments old.marker →
    IsTiedByPlaces o (with_places o m (all_entries old.mutators)) new.segments new.marker)
    → HasLeft c old new → NoneRemember new
    → IsMarking c s new h.places
