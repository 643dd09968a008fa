-- A marking cycle as a running collector keeps it, over a round, its stop and a promotion; and its pace.
use Rattle.std.specs.Prelude.{ℕ, ◌≡◌, ◌+◌, ◌<◌, ◌≤◌, ◌⊎◌, ◌↔◌, true, false, List, [], length, slice_get, Some}
use Rattle.nmgc_world_spec.specs.Reach.{Row}
use Rattle.nmgc_world_laws.specs.Reachable.{IsSound}
use Rattle.nmgc_alloc.specs.AllocState.{AllocState}
use Rattle.nmgc_heap_spec.specs.Moves.{Moved}
use Rattle.nmgc_stop_spec.specs.{Stopped.Stopped, Kept.interval_of, Cycle.Cycle}
use Rattle.nmgc_mutator.specs.{declared.mutator.Mutator.Mutator, Does.remembered as remembered_of}
use Rattle.nmgc_collector_laws.specs.{Collector.IsMarking, Collector.EachMutator, Collector.HasFound, Collector.IsPacedAtStop, Collector.IsPacedAfterRound, Seen.CollectorSeen, Seen.MutatorSeen, Stays.HasPromoted, Stays.places_after, RestMarking.with_rows}
use Rattle.nmgc_weak.specs.Queues.{weak_count}
use Rattle.nmgc_mark.specs.Seen.{MarkerSeen}
use Rattle.nmgc_run_spec.specs.Run.{State}

-- no mutator remembers anything
abbrev pub NoneRemember : CollectorSeen → Type 0
NoneRemember seen = EachMutator seen (λ m mutator. mutator.entries ≡ [])

-- a step leaves the cycle and the sweeper's notes, and the finaliser queues have room for all weak pointers that may die
pub record HasLeft (c : Cycle) (old new : CollectorSeen) : Type 0 where
  pub cycle : new.cycle ≡ old.cycle
  pub sweeper : new.sweeper ≡ old.sweeper
  pub queue_room : EachMutator new (λ m mutator. weak_count c.snapshot m new.weaks ≤ mutator.queue.spare)

-- the collector's view has the remembered entries of these mutators
abbrev pub ShowEntries : CollectorSeen → List Mutator → Type 0
ShowEntries seen mutators = EachMutator seen (λ k mutator. (m : Mutator) × (slice_get mutators k ≡ Some m) × (mutator.entries ≡ remembered_of m))

-- the law that a promotion keeps the invariant of a marking cycle (`IsMarking`), if marker and remembered entries stay
abbrev pub PromotionKeepsMarking : Type 0
PromotionKeepsMarking =
    (c : Cycle) (s : State) (old new : CollectorSeen) (t : Stopped) (words after registers : List ℕ) (queues : List (List ℕ)) (moves : List Moved)
    (placed : AllocState) → IsSound (interval_of c) → t.world ≡ s.world → IsMarking c s old t.places →
    HasPromoted c t old.segments new.segments words after registers queues moves s.allocation placed
    → new.marker ≡ old.marker → HasLeft c old new → EachMutator new (λ m mutator. (before : MutatorSeen) ×
    (slice_get old.mutators m ≡ Some before) × (mutator.entries ≡ before.entries))
    → IsMarking c (record s { allocation = placed }) new (places_after new.segments moves t)

-- the marker has scanned `count` further objects
abbrev pub Scans : MarkerSeen → MarkerSeen → ℕ → Type 0
Scans old new count = new.marked + length old.queue ≡ old.marked + length new.queue + count

-- the law of the pace over a round with these rows, in which the marker did the work that it reports
abbrev pub PaceAfterRound : Type 0
PaceAfterRound = (quota : ℕ) (c : Cycle) (rows : List Row) (s t : State) (old new : CollectorSeen) → 1 ≤ quota → IsPacedAtStop quota c s old →
    c.from ≤ s.number → t.number ≡ s.number + 1 → Scans old.marker new.marker new.work.scanned → old.marker.marked ≤ new.marker.marked →
    new.work.scanned ≤ quota → (new.work.scanned ≡ quota) ⊎ (new.work.empty ≡ true) → ((new.work.empty ≡ true) ↔ (new.marker.queue ≡ [])) →
    HasFound (with_rows c rows) new.marker
    → IsPacedAfterRound quota (with_rows c rows) t new

-- the law of the pace over the stop after a round, if the cycle goes on: added entries wait behind the entries already queued
abbrev pub PaceAtStop : Type 0
PaceAtStop = (quota : ℕ) (c : Cycle) (t : State) (old new : CollectorSeen) → IsPacedAfterRound quota c t old → c.from < t.number → old.work.empty ≡ false →
    Scans old.marker new.marker 0 → old.marker.marked ≤ new.marker.marked → IsPacedAtStop quota c t new

-- the law of the pace as a cycle begins: nothing was scanned yet
abbrev pub PaceBegins : Type 0
PaceBegins = (quota : ℕ) (c : Cycle) (s : State) (seen : CollectorSeen) → c.from ≡ s.number → seen.marker.marked ≡ length seen.marker.queue →
    IsPacedAtStop quota c s seen
