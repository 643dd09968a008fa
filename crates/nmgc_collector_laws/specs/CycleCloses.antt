-- A cycle that closes with weak pointers, in the terms of a run: when it may, and its result.
use Rattle.std.specs.Prelude.{ℕ, ◌≡◌, true, List, [], ◌↔◌}
use Rattle.nmgc_world_spec.specs.{declared.value.Name.Name, Reach.Lists, Reach.closed, Reach.Counts}
use Rattle.nmgc_world_laws.specs.Reachable.{IsSound}
use Rattle.nmgc_snapshot_laws.specs.Machine.{AreEmpty}
use Rattle.nmgc_segment.specs.{Invariant.IsMarked, Marks.epoch_of}
use Rattle.nmgc_alloc.specs.AllocState.{Segments, nth, LiesIn}
use Rattle.nmgc_heap_spec.specs.{Changes.AreEarlier, Objects.Place, Roots.ListsWeaks}
use Rattle.nmgc_round.specs.{Objects.earlier, View.Opening}
use Rattle.nmgc_stop_spec.specs.Cycle.{Cycle, IsDeadIn, IsKeptIn}
use Rattle.nmgc_stop_spec.specs.Kept.{interval_of, IsKeptObject}
use Rattle.nmgc_run_spec.specs.Run.{Closes, State, sweeping}
use Rattle.nmgc_collector_laws.specs.{Marker.IsCoreOf, Blocks.AreOfBlocks}
use Rattle.nmgc_mark.specs.{Seen.MarkerSeen, Stopped.IsReady}
use Rattle.nmgc_weak.specs.{Resolve.CanResolve, Resolve.HasResolved, declared.weaks.Death.Death, declared.weaks.OldWeak.OldWeak}

-- the law that a closing may resolve weak pointers at a stop, if nothing waits, is owed or is pushed and the marker is ready
abbrev pub CycleMayResolve : Type 0
CycleMayResolve = (c : Cycle) (o : Opening) (words : List ℕ) (s : Segments) (marker : MarkerSeen) (weaks : List Place) → IsSound (interval_of c) →
    IsCoreOf c o.core.world o.core → AreEmpty o.core.pushed → o.core.queue ≡ [] → o.marking ≡ true → AreEarlier (earlier o) o.core.world →
    IsReady o words s marker → ListsWeaks o.layout o.places o.core.world weaks → CanResolve o words s marker weaks

-- a closed cycle: its census's dead weak pointers die, and the marker marked and counted exactly the kept names in blocks
pub record HasClosed (c : Cycle) (s : State) (dead : List Name) (segments : Segments) (marker : MarkerSeen) : Type 0 where
  pub lists : Lists (IsDeadIn c) dead
  pub closes : Closes c s (record s { world = closed s.world dead; progress = sweeping c s.number })
  pub kept : Counts (IsKeptObject c) marker.marked
  pub exact : (number block : ℕ) (name : Name) → LiesIn s.allocation number block name →
      IsMarked (nth segments.segments number) marker.epoch block ↔ IsKeptIn c name

-- the law that a cycle whose weak pointers were resolved is closed
abbrev pub CycleCloses : Type 0
CycleCloses = (c : Cycle) (s : State) (o : Opening) (before words : List ℕ) (segments : Segments) (marker : MarkerSeen) (list : List OldWeak)
    (deaths : List Death) → IsSound (interval_of c) → IsCoreOf c s.world o.core → AreEmpty o.core.pushed → o.core.queue ≡ [] →
    AreOfBlocks o c segments before s.allocation o.core → marker.epoch ≡ epoch_of c.number → (r : HasResolved o words segments marker list deaths) →
    HasClosed c s r.closing.dead segments marker
