-- The collector beside the mutators, and the steps of a stop that advance a cycle.
use Rattle.std.specs.Prelude.{ℕ, ◌≡◌, ◌⊎◌, ◌↔◌, ◌+◌, ◌-◌, ◌/◌, ◌≤◌, ◌<◌, ◌++◌, ◌∷◌, List, [], length, map, slice_get, Some, true, false, IsSome}
use Rattle.nmgc_alloc.specs.declared.search.Category.TheVariants as sought
use Rattle.nmgc_alloc.specs.{AllocState.AllocState, AllocState.StandsFor, AllocState.Segments, Segments.HasNone, Segments.IsSegments, AllocState.carried_over}
use Rattle.nmgc_collector_laws.specs.{Calls.all_entries, Worked.registers_of, Resolves.finished_on}
pub use Rattle.nmgc_collector_laws.specs.Prepares.{all_prepared}
use Rattle.nmgc_journal.specs.declared.report.CycleRow.{CycleRow}
use Rattle.nmgc_mark.specs.{Beginning.IsBeginning, Beginning.most_blocks, Marker.HasMarked, Marker.blank, Marker.HasRoomToMark, Stopped.IsReady, Stopped.HasFinished, Tie.IsTied, Tie.with_places, Work.IsCollector, Work.HasWorked, Work.marks_seen, Seen.MarkerSeen}
use Rattle.nmgc_mutator.specs.declared.mutator.Mutator.{Mutator}
use Rattle.nmgc_round.specs.{declared.table.Round.Round, Gate.passed, Marking.Marks, Marking.marks_of, Seat.RoundSeat, Seat.seen as seat_seen, View.Opening}
use Rattle.nmgc_segment.specs.Marks.{epoch_of}
use Rattle.nmgc_sweep.specs.{NameTable.HaveEntries, Sweeper.AreLeft, Sweeper.turned, Work.HasBegun, Work.HasSwept}
use Rattle.nmgc_cycle.specs.{declared.collector.Collector.Collector, declared.progress.Marking.Marking, declared.progress.Progress.Progress, declared.progress.Sweeping.Sweeping, Roots.queues_in, Lined.IsLined, Lined.HaveForgotten, Listed.FinalisersQueued, Listed.HaveQueueRoom, Shown.died, Shown.seen_mutator, Shown.words_in}
use Rattle.nmgc_cycle.specs.declared.progress.Progress.TheVariants as progress
use Rattle.nmgc_snapshot_laws.specs.State.{newest_first, opening_in}
use Rattle.nmgc_world_spec.specs.declared.value.Name.{Name}
use Rattle.nmgc_object.specs.FinQueue.{FinQueue}
use Rattle.nmgc_weak.specs.{declared.weaks.Death.Death, declared.weaks.OldWeak.OldWeak, Queues.HaveRoom, Resolve.CanResolve, Resolve.HasResolved, Weaks.Weaks, Weaks.places_of}

-- In a round

-- the collector may do its part of a round. A marker has room for the objects that it marks, and the marks and the queue of
-- its seat's view. A sweeper has all waiting segments left, and the array of names has an entry for each block
abbrev pub CanHelp : Round → RoundSeat → Segments → List Name → Progress → Type 0
CanHelp round seat segments names progress.Idle = IsCollector round seat
CanHelp round seat segments names (progress.Marking m) = IsCollector round seat × HasRoomToMark segments m.marker ×
    IsTied (seat_seen seat).opening (marks_seen (seat_seen seat)) segments m.marker
CanHelp round seat segments names (progress.Sweeping w) = IsCollector round seat × AreLeft segments w.sweeper × HaveEntries segments.layout names

-- the marker's part: at most `quota` objects were scanned, fewer only if none is left, with a pass of the gate before each
pub record HasScanned (round : Round) (quota : ℕ) (from seat : RoundSeat) (old new : Segments) (m n : Marking) : Type 0 where
  pub rest : n ≡ record m { marker = n.marker; last = n.last }
  pub worked : HasWorked round from seat old new m.marker n.marker n.last.scanned
  pub most : n.last.scanned ≤ quota
  pub least : n.last.scanned < quota → n.marker.queue ≡ []
  pub empty : (n.last.empty ≡ true) ↔ (n.marker.queue ≡ [])
  pub turns : n.marker.turns ≡ passed m.marker.turns n.last.scanned

-- the sweeper's part: `quota` segments were swept, or all that were left, in two halves, with a pass of the gate before each
pub record HasSweptSome (quota : ℕ) (old new : Segments) (names : List Name) (w v : Sweeping) : Type 0 where
  pub rest : v ≡ record w { sweeper = v.sweeper }
  pub count : ℕ
  pub swept : HasSwept old new names w.sweeper v.sweeper count
  pub most : count ≤ quota
  pub least : count < quota → v.sweeper.left ≡ []
  pub turns : v.sweeper.turns ≡ passed w.sweeper.turns (count - count / 2)
  pub upper_turns : v.sweeper.upper_turns ≡ passed w.sweeper.upper_turns (count / 2)

-- the collector's part of a round: none; or `quota` objects scanned, or `quota` segments swept, fewer only if none is left
abbrev pub HasHelped : Round → ℕ → RoundSeat → RoundSeat → Segments → Segments → List Name → Progress → Progress → Type 0
HasHelped round quota from seat old new names progress.Idle after = (seat ≡ from) × (new ≡ old) × (after ≡ progress.Idle)
HasHelped round quota from seat old new names (progress.Marking m) after = (n : Marking) × (after ≡ progress.Marking n) ×
    HasScanned round quota from seat old new m n
HasHelped round quota from seat old new names (progress.Sweeping w) after = (v : Sweeping) × (after ≡ progress.Sweeping v) × (seat ≡ from) ×
    HasSweptSome quota old new names w v

-- the number of segments swept in a round: the sweeper has fewer left by this number
abbrev pub swept_beside : Sweeping → Sweeping → ℕ
swept_beside w v = length w.sweeper.left - length v.sweeper.left

-- the passes of the gate that a round adds: one for each object scanned, or for each segment swept in the lower half
abbrev pub worked_on : Progress → Progress → ℕ
worked_on (progress.Marking m) (progress.Marking n) = n.last.scanned
worked_on (progress.Sweeping w) (progress.Sweeping v) = swept_beside w v - swept_beside w v / 2
worked_on _ _ = 0

-- the passes that a round adds to the upper half's own count: one for each segment swept in it
abbrev pub upper_worked_on : Progress → Progress → ℕ
upper_worked_on (progress.Sweeping w) (progress.Sweeping v) = swept_beside w v / 2
upper_worked_on _ _ = 0

-- At a stop

-- the remembered addresses of all mutators, one mutator after the other
abbrev pub remembered_by : List Mutator → List ℕ
remembered_by mutators = all_entries (map seen_mutator mutators)

-- if a cycle marks, its marker has room for every block of the snapshot that it hasn't marked
abbrev pub CanAdd : Segments → Progress → Type 0
CanAdd segments (progress.Marking m) = HasRoomToMark segments m.marker
CanAdd segments _ = Unit {0}

-- these addresses were added to the marker: unmarked blocks of the snapshot at them are now marked, and wait to be scanned
pub record HasAdded (entries : List ℕ) (old new : Segments) (before after : MarkerSeen) : Type 0 where
  pub marked : HasMarked old new before after 0
  pub tied : (o : Opening) (m : Marks) → IsTied o m old before → IsTied o (with_places o m entries) new after
  pub turns : after.turns ≡ before.turns

-- if a cycle marks, the addresses were added to its marker, and the segments are still sound; otherwise nothing changed
abbrev pub AddsTo : List ℕ → Segments → Segments → Progress → Progress → Type 0
AddsTo entries old new (progress.Marking m) after = (marker : MarkerSeen) × (after ≡ progress.Marking (record m { marker = marker })) ×
    HasAdded entries old new m.marker marker × IsSegments new
AddsTo entries old new p after = (after ≡ p) × (new ≡ old)

-- adding, a step of a stop: if a cycle marks, its marker got the remembered entries. They are forgotten, and rings are empty
pub record HasTaken (old new : Collector) : Type 0 where
  pub rest : new ≡ record old {
    heap = record old.heap { segments = new.heap.segments };
    cycle = record old.cycle { progress = new.cycle.progress };
    inbox = new.inbox;
    mutators = new.mutators;
  }
  pub inbox : length new.inbox ≡ length old.inbox
  pub mutators : HaveForgotten old.mutators.items new.mutators.items
  pub lines : (k : ℕ) (n : Mutator) → slice_get new.mutators.items k ≡ Some n → IsLined new.inbox k n.sender
  pub adds : AddsTo (remembered_by old.mutators.items) old.heap.segments new.heap.segments old.cycle.progress new.cycle.progress

-- a marker may finish: it has room, and the marks and queue of a state that opens a round on these words. Then the weak
-- pointers of the list may be resolved, and the queues have room for the finalisers of those that die
pub record IsReadyToClose (words : List ℕ) (segments : Segments) (weaks : List OldWeak) (queues : List FinQueue) (m : Marking) : Type 0 where
  pub room : HasRoomToMark segments m.marker
  pub opening : Opening
  pub ready : IsReady opening words segments m.marker
  pub resolves : (between : Segments) (finisher : MarkerSeen) (f : HasFinished opening between finisher) →
      CanResolve (finished_on opening between finisher f) words between finisher (places_of weaks)
  pub queue_room : (between marked : Segments) (finisher marker : MarkerSeen) (after : List ℕ) (list : List OldWeak) (deaths : List Death)
      (f : HasFinished opening between finisher) → HasResolved (finished_on opening between finisher f) after marked marker list deaths → HaveRoom deaths queues

-- a cycle may be closed: if its marker's last work left nothing, the marker may finish
abbrev pub CanClose : List ℕ → Segments → List OldWeak → List FinQueue → Progress → Type 0
CanClose words segments weaks queues (progress.Marking m) = m.last.empty ≡ true → IsReadyToClose words segments weaks queues m
CanClose words segments weaks queues _ = Unit {0}

-- a closed cycle: the marker finished, the weak pointers were resolved, and the finalisers of the deaths joined the queues.
-- The marks of segments that don't wait were carried. The cycle sweeps from this stop on, with the marker's count of passes
pub record IsClosed (stop : ℕ) (words after : List ℕ) (old new : Segments) (weaks list : Weaks) (mutators then : List Mutator) (m : Marking)
    (sweeping : Sweeping) : Type 0 where
  pub between : Segments
  pub finisher : MarkerSeen
  pub marker : MarkerSeen
  pub marked : Segments
  pub first : (scanned : ℕ) × HasMarked old between m.marker finisher scanned
  pub second : (scanned : ℕ) × HasMarked between marked finisher marker scanned
  pub finished : (o : Opening) → IsReady o words old m.marker → HasFinished o between finisher
  pub resolved : (o : Opening) → CanResolve o words between finisher (places_of weaks.list) → HasResolved o after marked marker list.list list.deaths
  pub joined : FinalisersQueued list.deaths mutators then
  pub carried : new ≡ record marked { segments = map (carried_over marker.epoch) marked.segments }
  pub sound : IsSegments marked × IsSegments new
  pub is : sweeping ≡ record { from = m.from; closed = stop; kept = marker.marked; sweeper = turned m.sweeper m.marker.turns }

-- closing, a step of a stop: if the last work of a cycle's marker left nothing, the cycle is closed
abbrev pub Closes : ℕ → Progress → Collector → Collector → Type 0
Closes stop (progress.Marking m) old new = ((m.last.empty ≡ true) ×
    ((w : Sweeping) × (new.cycle.progress ≡ progress.Sweeping w) ×
    IsClosed stop (words_in old.heap.words) (words_in new.heap.words) old.heap.segments new.heap.segments old.heap.weaks new.heap.weaks old.mutators.items
    new.mutators.items m w)) ⊎ ((m.last.empty ≡ false) × (new ≡ old))
Closes stop p old new = new ≡ old

-- a closing by `Rule`, or none: of the collector only words, segments, list, progress and mutators changed
pub record HasClosed (Rule : ℕ → Progress → Collector → Collector → Type 0) (stop : ℕ) (old new : Collector) : Type 0 where
  pub rest : new ≡ record old {
    heap = record old.heap { words = new.heap.words; segments = new.heap.segments; weaks = new.heap.weaks };
    cycle = record old.cycle { progress = new.cycle.progress };
    mutators = new.mutators;
  }
  pub has_words : IsSome new.heap.words
  pub closes : Rule stop old.cycle.progress old new

-- the row of a cycle that ends at this stop, with the weak pointers that died at its closing
abbrev pub row_of : ℕ → ℕ → Sweeping → List Name → CycleRow
row_of number stop w dead = record {
  number = number;
  from = w.from;
  closed = w.closed;
  ended = stop;
  swept = w.sweeper.seen.swept;
  had = w.sweeper.seen.had;
  freed = w.sweeper.seen.freed;
  dead = dead;
  kept = w.kept;
}

-- a cycle swept to its end: it sweeps, and its sweeper has no segment left
abbrev pub IsSwept : Collector → Type 0
IsSwept c = (w : Sweeping) × (c.cycle.progress ≡ progress.Sweeping w) × (w.sweeper.left ≡ [])

-- end, a step of a stop: a cycle swept to its end ends, with its row; the collector keeps the sweeper's counts of passes
abbrev pub Ends : ℕ → Progress → Collector → Collector → Type 0
Ends stop (progress.Sweeping w) old new = ((w.sweeper.left ≡ []) ×
    (new ≡ record old {
      cycle = record old.cycle { progress = progress.Idle; turns = w.sweeper.turns; upper_turns = w.sweeper.upper_turns };
      rows = record old.rows { cycles = old.rows.cycles ++ row_of old.cycle.begun stop w (died old.heap.weaks.deaths) ∷ [] };
    })) ⊎ ((w.sweeper.left ≡ [] → ⊥) × (new ≡ old))
Ends stop _ old new = new ≡ old

-- a cycle that is marking before and after a stop: only its marker changed, and the answer of its last work is kept
abbrev pub MarksOn : Collector → Collector → Type 0
MarksOn old new = (m n : Marking) → old.cycle.progress ≡ progress.Marking m → new.cycle.progress ≡ progress.Marking n → new.cycle.begun ≡ old.cycle.begun →
    n ≡ record m { marker = n.marker }

-- a cycle is due: none is in progress, and either one was asked for or enough segments were filled since the last cycle began
abbrev pub IsDue : ℕ → Collector → Type 0
IsDue trigger c = (c.cycle.progress ≡ progress.Idle) × ((c.cycle.collect ≡ true) ⊎ ((1 ≤ trigger) × (trigger ≤ c.heap.segments.fresh)))

-- the next cycle's epoch
abbrev pub next_epoch : Collector → ℕ
next_epoch c = epoch_of (c.cycle.begun + 1)

-- segments and words represent some allocation state
abbrev pub HasStood : Segments → List ℕ → Type 0
HasStood segments words = (a : AllocState) × StandsFor segments words a

-- a cycle may begin: no segment waits, words and segments represent an allocation state, and marking begins with the roots
pub record CanBegin (c : Collector) : Type 0 where
  pub none_waits : HasNone sought.Sweeping c.heap.segments
  pub stood : HasStood (all_prepared c.heap.segments) (words_in c.heap.words)
  pub begins : (o : Opening) ×
      IsBeginning o (all_prepared c.heap.segments) (next_epoch c) (words_in c.heap.words) (registers_of c.mutators.items) (queues_in c.mutators.items)

-- the start of marking at this stop: the segments were prepared, the sweeper noted the waiting segments, and the marker
-- marked the objects that the roots refer to. Both have the collector's count of passes. Queues have room for the finalisers
pub record StartsMarking (stop : ℕ) (old new : Collector) (marking : Marking) : Type 0 where
  pub rest : new ≡ record old { heap = record old.heap { words = new.heap.words; segments = new.heap.segments }; mutators = new.mutators }
  pub from_is : marking.from ≡ stop
  pub last : marking.last ≡ record { scanned = 0; empty = false }
  pub words : (words_in new.heap.words ≡ words_in old.heap.words) × IsSome new.heap.words
  pub sound : IsSegments new.heap.segments
  pub queue_room : HaveQueueRoom old.heap.weaks.list old.mutators.items new.mutators.items
  pub sweeper : HasBegun (all_prepared old.heap.segments) (next_epoch old) marking.sweeper
  pub turns : (marking.marker.turns ≡ old.cycle.turns) × (marking.sweeper.turns ≡ old.cycle.turns) × (marking.sweeper.upper_turns ≡ old.cycle.upper_turns)
  pub marked : HasMarked (all_prepared old.heap.segments) new.heap.segments (blank (next_epoch old) (most_blocks old.heap.segments.layout)) marking.marker 0
  pub tied : (o : Opening) →
      IsBeginning o (all_prepared old.heap.segments) (next_epoch old) (words_in old.heap.words) (registers_of old.mutators.items)
      (queues_in old.mutators.items) → IsTied o (marks_of (opening_in newest_first o.core.snapshot)) new.heap.segments marking.marker

-- a started cycle: the roots were marked, and then the collector's progress and its count of cycles were set
pub record HasStarted (stop : ℕ) (old new : Collector) : Type 0 where
  pub marking : Marking
  pub marked : Collector
  pub starts : StartsMarking stop old marked marking
  pub is : new ≡ record marked { cycle = record marked.cycle { progress = progress.Marking marking; begun = old.cycle.begun + 1; collect = false } }

-- beginning, a step of a stop: if a cycle is due, it begins
abbrev pub Begins : ℕ → ℕ → Collector → Collector → Type 0
Begins trigger stop old new = (IsDue trigger old × HasStarted stop old new) ⊎ ((IsDue trigger old → ⊥) × (new ≡ old))
