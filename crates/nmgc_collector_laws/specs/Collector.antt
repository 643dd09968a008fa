-- The invariant of a running collector: its report so far describes one run of its plan. Its words, segments, marker and
-- sweeper represent the state of that run.
--
-- It holds after a new collector's opening stop, after every stop, and after the round between two stops, for the same run.
-- Contracts see the collector as `CollectorSeen`.
use Rattle.std.specs.Prelude.{ℕ, ◌≡◌, ◌≢◌, ◌⊎◌, ◌↔◌, ◌+◌, ◌-◌, ◌*◌, ◌<◌, ◌≤◌, List, [], ◌∷◌, ◌++◌, length, slice_get, Contains, Some, None, true}
use Rattle.nmgc_world_spec.specs.{declared.command.Reply.Reply, World.World, Reach.Row, Reach.MoreThan}
use Rattle.nmgc_object.specs.{declared.layout.Layout.Layout, declared.layout.Nursery.Nursery, Words.nursery_place, Words.reserve_count}
use Rattle.nmgc_alloc.specs.{Reserve.free_count, Settled.AreSettled}
use Rattle.nmgc_heap_spec.specs.Objects.{Place}
use Rattle.nmgc_stop_spec.specs.{Nurseries.AreUsed, Nurseries.LieInOrder, Nurseries.AreEmpty, Nurseries.nursery_at, Remembers.Remembers, Cycle.Cycle}
use Rattle.nmgc_snapshot_laws.specs.State.{State as Core, names_of}
use Rattle.nmgc_journal.specs.declared.report.RoundRows.{RoundRows}
use Rattle.nmgc_run_spec.specs.Run.{Plan, State, Progress, idle, marking, sweeping, phase_of, layout_of, start, IsFoundObject, IsRound, answer_of, Run, IsRun, AreRowsOf, last_state}
use Rattle.nmgc_run_spec.specs.{Heap.HoldsAtStop, AfterRound.HoldsAfterRound, Heap.snapshots}
use Rattle.nmgc_collector_laws.specs.{Seen.CollectorSeen, Seen.MutatorSeen, Seen.ends_of, Seen.nurseries_of, Seen.recorded_in, Seen.young_weaks_in, Seen.finalised_in, Marker.IsCoreOf, Marker.AreRemembered, Marker.IsTied, Worked.ListsFinalised}
use Rattle.nmgc_mark.specs.{Seen.MarkerSeen, Marker.HasRoomToMark}
use Rattle.nmgc_sweep.specs.Sweeping.{HasListedNothing, HasNoted, IsSweeping}
use Rattle.nmgc_weak.specs.Queues.{weak_count}

-- the collector's phase, requests and number of cycles begun are the state's
pub record Matches (seen : CollectorSeen) (s : State) : Type 0 where
  pub phase : seen.phase ≡ phase_of s.progress
  pub begun : seen.begun ≡ s.begun
  pub collect : seen.collect ≡ s.collect
  pub full : seen.full ≡ s.full

-- the nurseries are the mutators' whole parts of the words; each nursery object lies in the used part of its maker's nursery
pub record AreNurseries (layout : Layout) (places : List Place) (w : World) (nurseries : List Nursery) : Type 0 where
  pub used : AreUsed layout (nursery_place layout 0) places w nurseries
  pub ends : (maker : ℕ) → maker < layout.mutators → (nursery_at nurseries maker).end ≡ (nursery_at nurseries maker).base + layout.nursery

-- the predicate `P` holds for each mutator and its number
abbrev pub EachMutator : CollectorSeen → (ℕ → MutatorSeen → Type 0) → Type 0
EachMutator seen P = (m : ℕ) (mutator : MutatorSeen) → slice_get seen.mutators m ≡ Some mutator → P m mutator

-- a mutator's lists for the next stop are empty
pub record IsEmptied (mutator : MutatorSeen) : Type 0 where
  pub recorded : mutator.recorded ≡ []
  pub young_weaks : mutator.young_weaks ≡ []
  pub finalised : mutator.finalised ≡ []
  pub entries : mutator.entries ≡ []

-- all mutators at a stop: their nurseries are empty, and so are their lists for the next stop
pub record AreAtRest (layout : Layout) (places : List Place) (w : World) (seen : CollectorSeen) : Type 0 where
  pub nurseries : AreNurseries layout places w (nurseries_of seen)
  pub empty : AreEmpty (nurseries_of seen)
  pub nothing : EachMutator seen (λ m mutator. IsEmptied mutator)

-- the marker has scanned `count` objects: the marked objects that don't wait
abbrev pub HasScanned : MarkerSeen → ℕ → Type 0
HasScanned marker count = marker.marked ≡ count + length marker.queue

-- a marking cycle: its marker is tied to a marking machine, which has pushed exactly the remembered entries, all below the
-- nurseries. There is room for marks, and for finalisers at the closing. The sweeper noted its segments, and listed nothing
pub record IsMarking (c : Cycle) (s : State) (seen : CollectorSeen) (places : List Place) : Type 0 where
  pub core : Core
  pub machine : IsCoreOf c s.world core
  pub tied : IsTied c s.allocation seen.segments places seen.marker core
  pub remembered : EachMutator seen (λ m mutator. AreRemembered c places mutator.entries (names_of core.pushed m))
  pub low : EachMutator seen (λ m mutator. (at : ℕ) → Contains mutator.entries at → at < nursery_place seen.segments.layout 0)
  pub room : HasRoomToMark seen.segments seen.marker
  pub queue_room : EachMutator seen (λ m mutator. weak_count c.snapshot m seen.weaks ≤ mutator.queue.spare)
  pub from_is : seen.cycle.from ≡ c.from
  pub noted : HasNoted c seen.sweeper
  pub nothing_listed : HasListedNothing seen.sweeper

-- the pace of marking at a stop: each round since the snapshot scanned its quota, and after such rounds something waits
pub record IsPacedAtStop (quota : ℕ) (c : Cycle) (s : State) (seen : CollectorSeen) : Type 0 where
  pub scanned : HasScanned seen.marker ((s.number - c.from) * quota)
  pub not_done : c.from < s.number → seen.marker.queue ≢ []

-- the marked objects are found: the cycle has more found objects than each lower number
abbrev pub HasFound : Cycle → MarkerSeen → Type 0
HasFound c marker = (count : ℕ) → count < marker.marked → MoreThan (IsFoundObject c) count

-- the pace of marking after a round: earlier rounds scanned their quotas, and this round scanned its quota or left nothing.
-- If it isn't the first round, something waited at the stop before, and so something was scanned. Marked objects are found
pub record IsPacedAfterRound (quota : ℕ) (c : Cycle) (t : State) (seen : CollectorSeen) : Type 0 where
  pub scanned : HasScanned seen.marker ((t.number - c.from - 1) * quota + seen.work.scanned)
  pub most : seen.work.scanned ≤ quota
  pub some : c.from + 1 < t.number → 1 ≤ seen.work.scanned
  pub quota_or_done : (seen.work.scanned ≡ quota) ⊎ (seen.work.empty ≡ true)
  pub empty : (seen.work.empty ≡ true) ↔ (seen.marker.queue ≡ [])
  pub found : HasFound c seen.marker

-- the conditions of the cycle in progress on marker, sweeper and marks
abbrev pub HoldsInCycle : (Cycle → Type 0) → Progress → State → CollectorSeen → List Place → Type 0
HoldsInCycle Paced idle s seen places = AreSettled s.begun seen.segments
HoldsInCycle Paced (marking c) s seen places = IsMarking c s seen places × Paced c
HoldsInCycle Paced (sweeping c closed) s seen places = IsSweeping c closed s.allocation seen.segments seen.cycle seen.sweeper × AreSettled s.begun seen.segments

-- the invariant after a stop: the collector's report so far describes one run of the plan. Its words, segments, marker and
-- sweeper represent that run's last state, at the quota's pace. While its cycle marks, its sweeper has listed nothing yet
pub record IsAtStop (plan : Plan) (run : Run) (seen : CollectorSeen) : Type 0 where
  pub is_run : IsRun plan run
  pub agrees : AreRowsOf run seen.rounds seen.stops seen.cycles
  pub matches : Matches seen (last_state run)
  pub answered : seen.answered ≡ answer_of plan (last_state run)
  pub heap : HoldsAtStop (layout_of plan) (last_state run) seen.words seen.segments (ends_of seen) seen.weaks
  pub at_rest : AreAtRest (layout_of plan) heap.places (last_state run).world seen
  pub cycle : HoldsInCycle (λ c. IsPacedAtStop plan.config.quota c (last_state run) seen) (last_state run).progress (last_state run) seen heap.places

-- the reserve is free, or no nursery has an object
abbrev pub HasReserve : Layout → CollectorSeen → Type 0
HasReserve layout seen = (reserve_count layout ≤ free_count seen.segments.segments) ⊎ AreEmpty (nurseries_of seen)

-- the collector's invariant after a round that follows the last stop of a run, with these replies and this history. New
-- objects lie in the used parts of their makers' nurseries, in the order of names. The mutators have left everything that the
-- promotion needs, and report the weak pointers that they finalised
pub record IsAfterRound (plan : Plan) (run : Run) (replies : List (List Reply)) (history : List Row) (t : State) (seen : CollectorSeen) : Type 0 where
  pub is_run : IsRun plan run
  pub goes_on : answer_of plan (last_state run) ≡ None
  pub round : IsRound plan.config (last_state run) replies history t
  pub before : List RoundRows
  pub agrees : AreRowsOf run before seen.stops seen.cycles
  pub rounds : seen.rounds ≡ before ++ record { replies = replies } ∷ []
  pub matches : Matches seen t
  pub places : List Place
  pub heap : HoldsAfterRound (layout_of plan) (last_state run) t places seen.words seen.segments (ends_of seen) seen.weaks
  pub nurseries : AreNurseries (layout_of plan) places t.world (nurseries_of seen)
  pub ordered : LieInOrder (nursery_place (layout_of plan) 0) places
  pub left : Remembers (nursery_place (layout_of plan) 0) ((last_state run).world ∷
      snapshots t.progress) places t.world (recorded_in seen) (young_weaks_in seen)
  pub reported : ListsFinalised (nursery_place (layout_of plan) 0) places (last_state run).world t.world (finalised_in seen)
  pub reserve : HasReserve (layout_of plan) seen
  pub cycle : HoldsInCycle (λ c. IsPacedAfterRound plan.config.quota c t seen) t.progress t seen places

-- the collector's invariant before the first stop: nothing has been done, and no mark is set
pub record IsNew (plan : Plan) (seen : CollectorSeen) : Type 0 where
  pub nothing : (seen.rounds ≡ []) × (seen.stops ≡ []) × (seen.cycles ≡ [])
  pub matches : Matches seen (start plan)
  pub heap : HoldsAtStop (layout_of plan) (start plan) seen.words seen.segments (ends_of seen) seen.weaks
  pub at_rest : AreAtRest (layout_of plan) heap.places (start plan).world seen
  pub settled : AreSettled 0 seen.segments
