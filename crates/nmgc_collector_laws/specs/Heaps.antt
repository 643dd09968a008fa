-- The heap of a marking cycle in the terms of a run: at rest at a stop, and after a round and its promotion.
use Rattle.std.specs.Prelude.{ℕ, ◌≡◌, List, map, slice_get, Some, All}
use Rattle.nmgc_object.specs.declared.layout.Layout.{Layout}
use Rattle.nmgc_alloc.specs.{AllocState.StandsFor, AllocState.Segments, Segments.IsSegments}
use Rattle.nmgc_heap_spec.specs.{Objects.Place, Roots.RepresentsRoots}
use Rattle.nmgc_journal.specs.declared.report.MutatorEnd.{MutatorEnd}
use Rattle.nmgc_round.specs.{View.Opening, View.Seen as View, Objects.earlier, Rule.now, Starting.CanOpen, Finishing.Leaves, Finishing.places_then}
use Rattle.nmgc_mutator.specs.{declared.mutator.Mutator.Mutator, Ready.IsWhole, Does.remembered, Records.numbers}
use Rattle.nmgc_collector_laws.specs.{Collector.AreAtRest, Collector.IsMarking, Seen.CollectorSeen, Seen.MutatorSeen, Seen.ends_of, RestMarking.IsAtRestMarking, RestMarking.opening_beside}
use Rattle.nmgc_run_spec.specs.{Heap.HoldsAtStop, AfterRound.HoldsAfterRound, Terms.HasAllRegisters, Terms.registers_of, Terms.queues_of, Terms.serials_of, Heap.snapshots, Run.Plan, Run.State, Run.marking, Run.layout_of}
use Rattle.nmgc_run_laws.specs.Sound.{IsSoundState, LieKnown}
use Rattle.nmgc_stop_spec.specs.Cycle.{Cycle}
use Rattle.nmgc_mark.specs.Stopped.{IsReady}

-- the view of a mutator in the contracts of a collector
abbrev pub seen_mutator : Mutator → MutatorSeen
seen_mutator m = record {
  registers = m.registers;
  queue = m.queue;
  serial = m.serial;
  nursery = m.nursery;
  recorded = numbers m.recorded.items;
  young_weaks = numbers m.young_weaks.items;
  finalised = numbers m.finalised.items;
  entries = remembered m;
}

-- the collector's view has these mutators, by their numbers, each with all its registers
pub record AreShown (layout : Layout) (seen : CollectorSeen) (mutators : List Mutator) : Type 0 where
  pub are : seen.mutators ≡ map seen_mutator mutators
  pub each : (k : ℕ) (m : Mutator) → slice_get mutators k ≡ Some m → (m.number ≡ k) × (m.layout ≡ layout) × IsWhole m

-- the law that at a stop the heap of a sound state is at rest beside a marking cycle, if the mutators have nothing left of
-- their round. So the marker may finish, even before the stop's answer
abbrev pub HeapRests : Type 0
HeapRests = (plan : Plan) (s : State) (seen : CollectorSeen) (c : Cycle) (mutators : List Mutator) → IsSoundState plan s →
    (h : HoldsAtStop (layout_of plan) s seen.words seen.segments (ends_of seen) seen.weaks) → AreAtRest (layout_of plan) h.places s.world seen →
    s.progress ≡ marking c → (k : IsMarking c s seen h.places) → IsSegments seen.segments → AreShown seen.segments.layout seen mutators →
    IsAtRestMarking c k.core seen.segments h.places s.world seen.words mutators seen.marker.queue ×
    IsReady (opening_beside seen.segments.layout k.core h.places mutators) seen.words seen.segments seen.marker

-- a round from the heap of a stop, its results and its mutators' roots. The segments represent the same blocks as before
pub record IsRoundFrom (layout : Layout) (s t : State) (o : Opening) (before after : List ℕ) (v : View) (old new : Segments)
    (ends later : List MutatorEnd) (weaks : List Place) : Type 0 where
  pub heap : HoldsAtStop layout s before old ends weaks
  pub known : LieKnown s.world s.allocation
  pub can : CanOpen o before
  pub layout_is : o.layout ≡ layout
  pub places_are : o.places ≡ heap.places
  pub began : o.core.world ≡ s.world
  pub left : Leaves o after v
  pub world_is : t.world ≡ (now o left.0.events).world
  pub earlier_is : snapshots t.progress ≡ earlier o
  pub allocation_is : t.allocation ≡ s.allocation
  pub new_layout : new.layout ≡ layout
  pub stands : StandsFor new before s.allocation
  pub registers : All HasAllRegisters later
  pub roots : RepresentsRoots (places_then o left.0.born) t.world (registers_of later) (queues_of later) (serials_of later)

-- the law that words and segments represent the state after a round that began with the heap of a stop
abbrev pub RoundHolds : Type 0
RoundHolds = (layout : Layout) (s t : State) (o : Opening) (before after : List ℕ) (v : View) (old new : Segments) (ends later : List MutatorEnd)
    (weaks : List Place) → (r : IsRoundFrom layout s t o before after v old new ends later weaks) →
    HoldsAfterRound layout s t (places_then o r.left.0.born) after new later weaks

-- the law that the heap stays the same when blocks are marked
abbrev pub MarkedHolds : Type 0
MarkedHolds = (layout : Layout) (s : State) (words : List ℕ) (old new : Segments) (ends : List MutatorEnd) (weaks : List Place)
    (h : HoldsAtStop layout s words old ends weaks) → new.layout ≡ layout → StandsFor new words s.allocation →
    (k : HoldsAtStop layout s words new ends weaks) × (k.places ≡ h.places)
