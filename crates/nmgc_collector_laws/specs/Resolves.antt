-- A closing by its calls: the marker finishes, the weak pointers are resolved, and the finalisers of dead weak pointers join
-- their makers' queues. For the run, the cycle is then closed, and words, roots and list represent the closed world.
use Rattle.std.specs.Prelude.{ℕ, ◌≡◌, List, [], map, All}
use Rattle.nmgc_world_spec.specs.{declared.value.Name.Name, Reach.closed}
use Rattle.nmgc_object.specs.{FinQueue.FinQueue, declared.layout.Layout.Layout}
use Rattle.nmgc_alloc.specs.{AllocState.StandsFor, AllocState.Segments, Segments.IsSegments, Settled.AreSettled}
use Rattle.nmgc_journal.specs.declared.report.MutatorEnd.{MutatorEnd}
use Rattle.nmgc_round.specs.{View.Opening, Rule.now}
use Rattle.nmgc_mutator.specs.declared.mutator.Mutator.{Mutator}
use Rattle.nmgc_collector_laws.specs.{Collector.IsMarking, Seen.CollectorSeen, Seen.ends_of, CycleCloses.HasClosed, RestMarking.IsAtRestMarking, RestMarking.opening_beside, Sweeps.all_carried}
use Rattle.nmgc_run_laws.specs.Course.{IsLastBegun, WaitsWhole}
use Rattle.nmgc_run_spec.specs.{Heap.HoldsAtStop, Terms.HasAllRegisters, Terms.registers_of, Terms.queues_of, Terms.serials_of, Run.State, Run.sweeping}
use Rattle.nmgc_sweep.specs.{Sweeping.HasNoted, Sweeping.IsSweeping, Seen.CycleSeen, Seen.SweeperSeen}
use Rattle.nmgc_segment.specs.Marks.{epoch_of}
use Rattle.nmgc_mark.specs.{Seen.MarkerSeen, Marker.HasMarked, Stopped.HasFinished}
use Rattle.nmgc_stop_spec.specs.Cycle.{Cycle}
use Rattle.nmgc_weak.specs.{declared.weaks.Death.Death, declared.weaks.OldWeak.OldWeak, Queues.AllJoin, Resolve.CanResolve, Resolve.HasResolved, Weaks.places_of}

-- the opening with the machine's state after the marker has finished
abbrev pub finished_on : (o : Opening) (s : Segments) (marker : MarkerSeen) → HasFinished o s marker → Opening
finished_on o s marker f = record o { core = now o f.events }

-- the heap at a stop while a cycle marks and nothing is remembered: at rest, with the machine to which the marker is tied
pub record IsStopOf (layout : Layout) (c : Cycle) (s : State) (seen : CollectorSeen) (mutators : List Mutator) : Type 0 where
  pub heap : HoldsAtStop layout s seen.words seen.segments (ends_of seen) seen.weaks
  pub kept : IsMarking c s seen heap.places
  pub rest : IsAtRestMarking c kept.core seen.segments heap.places s.world seen.words mutators seen.marker.queue

-- the opening of a round that could begin at the stop
abbrev pub stop_opening : (layout : Layout) (c : Cycle) (s : State) (seen : CollectorSeen) (mutators : List Mutator) → IsStopOf layout c s seen mutators → Opening
stop_opening layout c s seen mutators h = opening_beside seen.segments.layout h.kept.core h.heap.places mutators

-- the law that the weak pointers may be resolved once the marker has finished
abbrev pub FinishMayResolve : Type 0
FinishMayResolve = (layout : Layout) (c : Cycle) (s : State) (seen : CollectorSeen) (mutators : List Mutator) (marked : Segments) (marker : MarkerSeen) →
    (h : IsStopOf layout c s seen mutators) → (f : HasFinished (stop_opening layout c s seen mutators h) marked marker) →
    CanResolve (finished_on (stop_opening layout c s seen mutators h) marked marker f) seen.words marked marker seen.weaks

-- a closing by its calls: the marker finished at a stop, and the weak pointers were resolved, with this list and these deaths
pub record IsClosingOf (layout : Layout) (c : Cycle) (s : State) (seen : CollectorSeen) (mutators : List Mutator) (words : List ℕ) (marked : Segments)
    (marker : MarkerSeen) (list : List OldWeak) (deaths : List Death) : Type 0 where
  pub stop : IsStopOf layout c s seen mutators
  pub between : Segments
  pub finisher : MarkerSeen
  pub first : (scanned : ℕ) × HasMarked seen.segments between seen.marker finisher scanned
  pub second : (scanned : ℕ) × HasMarked between marked finisher marker scanned
  pub finished : HasFinished (stop_opening layout c s seen mutators stop) between finisher
  pub resolved : HasResolved (finished_on (stop_opening layout c s seen mutators stop) between finisher finished) words marked marker list deaths
  pub sound : IsSegments marked

-- the law that a closing by its calls closes the cycle, and the deaths are its dead weak pointers
abbrev pub ResolveCloses : Type 0
ResolveCloses = (layout : Layout) (c : Cycle) (s : State) (seen : CollectorSeen) (mutators : List Mutator) (words : List ℕ) (marked : Segments)
    (marker : MarkerSeen) (list : List OldWeak) (deaths : List Death) → (k : IsClosingOf layout c s seen mutators words marked marker list deaths) →
    HasClosed c s k.resolved.closing.dead marked marker

-- the state of a run after a closing: these weak pointers are dead, and the cycle sweeps
abbrev pub closed_state : Cycle → State → List Name → State
closed_state c s dead = record s { world = closed s.world dead; progress = sweeping c s.number }

-- the mutators' roots once the finalisers have joined: the queues are longer, and registers and serials stay
pub record FinalisersInHand (seen : CollectorSeen) (deaths : List Death) (queues : List FinQueue) (ends : List MutatorEnd) : Type 0 where
  pub old : List FinQueue
  pub old_are : queues_of (ends_of seen) ≡ map (λ (q : FinQueue). q.words) old
  pub joined : AllJoin deaths old queues
  pub queues_are : queues_of ends ≡ map (λ (q : FinQueue). q.words) queues
  pub registers : registers_of ends ≡ registers_of (ends_of seen)
  pub serials : serials_of ends ≡ serials_of (ends_of seen)
  pub whole : All HasAllRegisters ends

-- the law that after a closing words, roots and list represent the closed world, at the same places, with no snapshot tracked
abbrev pub ClosedHolds : Type 0
ClosedHolds = (layout : Layout) (c : Cycle) (s : State) (seen : CollectorSeen) (mutators : List Mutator) (words : List ℕ) (marked : Segments)
    (marker : MarkerSeen) (list : List OldWeak) (deaths : List Death) (queues : List FinQueue) (ends : List MutatorEnd) →
    (k : IsClosingOf layout c s seen mutators words marked marker list deaths) → FinalisersInHand seen deaths queues ends →
    (g : HoldsAtStop layout (closed_state c s k.resolved.closing.dead) words marked ends (places_of list)) × (g.places ≡ k.stop.heap.places)

-- the collector's view has a cycle that was closed at this stop, with these deaths
pub record ShowsDeaths (c : Cycle) (closed : ℕ) (dead : List Name) (marker : MarkerSeen) (cycle : CycleSeen) : Type 0 where
  pub from_is : cycle.from ≡ c.from
  pub closed_is : cycle.closed ≡ closed
  pub dead_is : cycle.dead ≡ dead
  pub kept_is : cycle.kept ≡ marker.marked

-- the law that a cycle that closes while all of its segments wait begins to sweep, with nothing listed or freed yet
abbrev pub ClosedCycleSweeps : Type 0
ClosedCycleSweeps = (c : Cycle) (s : State) (dead : List Name) (words : List ℕ) (segments : Segments) (marker : MarkerSeen) (cycle : CycleSeen)
    (sweeper : SweeperSeen) → IsSegments segments → StandsFor segments words s.allocation → IsLastBegun c s.number s.begun → WaitsWhole c s.allocation
    → HasClosed c s dead segments marker → marker.epoch ≡ epoch_of c.number → ShowsDeaths c s.number dead marker cycle → HasNoted c sweeper →
    sweeper.had ≡ [] → sweeper.freed ≡ []
    → IsSweeping c s.number s.allocation (all_carried marker.epoch segments) cycle sweeper × AreSettled s.begun (all_carried marker.epoch segments)
