-- A full cycle at a stop: the effect of each of its parts on a collector.
use Rattle.std.specs.Prelude.{ℕ, ◌≡◌, ◌⊎◌, List, [], map, length, Bool, true, false, ◌&&◌, nat_lt}
use Rattle.nmgc_alloc.specs.{Reserve.free_count, AllocState.Segments, Segments.IsSegments, CycleSteps.retired}
use Rattle.nmgc_object.specs.{Words.reserve_count, FinQueue.FinQueue}
use Rattle.nmgc_world_spec.specs.declared.value.Name.{Name}
use Rattle.nmgc_sweep.specs.{NameTable.HaveEntries, Sweeper.AreLeft, Work.HasSwept}
use Rattle.nmgc_weak.specs.declared.weaks.OldWeak.{OldWeak}
use Rattle.nmgc_cycle.specs.{declared.collector.Collector.Collector, declared.progress.Progress.Progress, declared.progress.Sweeping.Sweeping, Cycles.HasClosed, Cycles.IsClosed, Cycles.IsReadyToClose, Cycles.HasStarted, Cycles.Ends, Cycles.Begins, Shown.words_in}
use Rattle.nmgc_cycle.specs.declared.progress.Progress.TheVariants as progress

-- the heap is short of segments: commands are left, and fewer segments are free than the reserve
abbrev pub is_short_of : Bool → Collector → Bool
is_short_of left c = left && nat_lt (free_count c.heap.segments.segments) (reserve_count c.heap.segments.layout)

-- a full cycle is due: it was asked for, or the heap is short of segments
abbrev pub IsFullDue : Bool → Collector → Type 0
IsFullDue left c = (c.cycle.full ≡ true) ⊎ (is_short_of left c ≡ true)

-- if a cycle marks, its marker may finish, whatever its last work left
abbrev pub CanCloseNow : List ℕ → Segments → List OldWeak → List FinQueue → Progress → Type 0
CanCloseNow words segments weaks queues (progress.Marking m) = IsReadyToClose words segments weaks queues m
CanCloseNow words segments weaks queues _ = Unit {0}

-- closing in a full cycle: if a cycle marks, it was closed, whatever its marker's last work left
abbrev pub ClosesNow : ℕ → Progress → Collector → Collector → Type 0
ClosesNow stop (progress.Marking m) old new = (w : Sweeping) × (new.cycle.progress ≡ progress.Sweeping w) ×
    IsClosed stop (words_in old.heap.words) (words_in new.heap.words) old.heap.segments new.heap.segments old.heap.weaks new.heap.weaks old.mutators.items
    new.mutators.items m w
ClosesNow stop p old new = new ≡ old

-- if a cycle sweeps, its sweeper has all waiting segments left, and the array of names has an entry for each block
abbrev pub CanSweepRest : Segments → List Name → Progress → Type 0
CanSweepRest segments names (progress.Sweeping w) = AreLeft segments w.sweeper × HaveEntries segments.layout names
CanSweepRest segments names _ = Unit {0}

-- all waiting segments were swept, without a pass of the gate
pub record HasSweptAll (old new : Segments) (names : List Name) (w v : Sweeping) : Type 0 where
  pub rest : v ≡ record w { sweeper = v.sweeper }
  pub swept : HasSwept old new names w.sweeper v.sweeper (length w.sweeper.left)
  pub none : v.sweeper.left ≡ []
  pub turns : (v.sweeper.turns ≡ w.sweeper.turns) × (v.sweeper.upper_turns ≡ w.sweeper.upper_turns)
  pub sound : IsSegments new

-- if a cycle sweeps, it was swept to its end; otherwise nothing changed
abbrev pub SweepsRest : Segments → Segments → List Name → Progress → Progress → Type 0
SweepsRest old new names (progress.Sweeping w) after = (v : Sweeping) × (after ≡ progress.Sweeping v) × HasSweptAll old new names w v
SweepsRest old new names p after = (after ≡ p) × (new ≡ old)

-- if a cycle sweeps, it was swept to its end, and nothing else of the collector changed
pub record HasSweptRest (old new : Collector) : Type 0 where
  pub rest : new ≡ record old { heap = record old.heap { segments = new.heap.segments }; cycle = record old.cycle { progress = new.cycle.progress } }
  pub sweeps : SweepsRest old.heap.segments new.heap.segments old.heap.names old.cycle.progress new.cycle.progress

-- the cycle in progress was closed, swept and ended at this stop
pub record HasFinished (stop : ℕ) (old new : Collector) : Type 0 where
  pub closed : Collector
  pub closes : HasClosed ClosesNow stop old closed
  pub swept : Collector
  pub sweeps : HasSweptRest closed swept
  pub ends : Ends stop swept.cycle.progress swept new

-- the collector with current and active segments filed as filled
abbrev pub with_all_retired : Collector → Collector
with_all_retired c = record c { heap = record c.heap { segments = record c.heap.segments { segments = map retired c.heap.segments.segments } } }

-- full cycle, in the code: the cycle in progress finished, all segments filed, a cycle begun and finished, no request left
pub record HasDoneFull (stop : ℕ) (old new : Collector) : Type 0 where
  pub idled : Collector
  pub first : HasFinished stop old idled
  pub sound : IsSegments (with_all_retired idled).heap.segments
  pub started : Collector
  pub starts : HasStarted stop (with_all_retired idled) started
  pub last : Collector
  pub again : HasFinished stop started last
  pub is : new ≡ record last { cycle = record last.cycle { collect = false; full = false } }

-- if a full cycle is due, it was done; otherwise, if a cycle is due, it began
abbrev pub Proceeds : ℕ → Bool → ℕ → Collector → Collector → Type 0
Proceeds trigger left stop old new = (IsFullDue left old × HasDoneFull stop old new) ⊎ ((IsFullDue left old → ⊥) × Begins trigger stop old new)
