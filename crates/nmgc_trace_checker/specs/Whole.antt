-- The facts that a trace of format 2 shows about the marker, though the marker isn't in the trace.
use Rattle.std.specs.Prelude.{◌≡◌, ◌↔◌, ◌+◌, List, [], ◌∷◌, ◌++◌, length, IsSome, Contains}
use Rattle.nmgc_world_spec.specs.{declared.value.Name.Name, World.World, World.node_of, Known.IsWorld, Reach.IsLive}
use Rattle.nmgc_snapshot_laws.specs.declared.event.Event.TheVariants as core
use Rattle.nmgc_snapshot_laws.specs.{State.State, Machine.IsPossible, Closing.IsClosing}
use Rattle.nmgc_barrier_laws.specs.{Barrier.HasFinished, Barrier.EndsExactly, Hybrid.Hybrid, Hybrid.WatchesIn, Hybrid.BesideIn}
use Rattle.nmgc_barrier_checker.specs.{declared.event.Event.Event, declared.cycle_result.CycleResult.CycleResult, Watching.Can}
use Rattle.nmgc_barrier_checker.specs.declared.watch.Watch.TheVariants as watch
use Rattle.nmgc_trace_checker.specs.{declared.meaning.Meaning.Meaning, declared.report.Report.Report, Reports.Comes}
use Rattle.nmgc_trace_checker.specs.declared.meaning.Meaning.TheVariants as meaning
use Rattle.nmgc_trace_checker.specs.declared.report.Begun.TheVariants as begun
use Rattle.nmgc_trace_checker.specs.declared.report.Report.TheVariants as report

-- a cycle that ends in a trace, with its result: the lines before its close lead into the cycle, and the close can happen
pub record Closes (lines : List Meaning) (h : Hybrid) (left : CycleResult) : Type 0 where
  pub earlier : List Meaning
  pub close : Event
  pub later : List Meaning
  pub lines_are : lines ≡ earlier ++ meaning.Event close ∷ later
  pub comes : Comes 1 begun.Nothing earlier (begun.Watching (watch.Marking h))
  pub ends : Can (length earlier + 1) (watch.Marking h) close (watch.Ended left)

-- an exact cycle. It began with a world, with its registers as roots or with later roots, and commands, pushes, scans and
-- values handed over led to its state. A finished marker is possible beside it, with all pushed names taken and all marked
-- objects read. Each finished marker can end, and ends exactly, in whatever order it took names and read objects. A marker
-- that ends has marked exactly the names reported as kept. Nothing is lost: every name that can be reached at the close and
-- was there at the mark is reported as kept
pub record IsExact (h : Hybrid) (left : CycleResult) : Type 0 where
  pub begins : World
  pub is_world : IsWorld begins
  pub watches : WatchesIn begins h
  pub marker : (s : State) × BesideIn begins h s × HasFinished s
  pub ends : (s : State) → BesideIn begins h s → HasFinished s → EndsExactly h.watch s
  pub marks : (s next : State) → BesideIn begins h s → IsPossible s core.Close → IsClosing s next → (name : Name) →
      Contains next.marked name ↔ Contains left.kept name
  pub keeps : (name : Name) → IsLive h.watch.world [] name → IsSome (node_of h.watch.snapshot name) → Contains left.kept name

-- the theorem about a report: in a whole trace a cycle ends, and each cycle that ends is exact
abbrev pub IsWholeReport : List Meaning → Report → Type 0
IsWholeReport lines report.Whole = ((h : Hybrid) × (left : CycleResult) × Closes lines h left) × ((h : Hybrid) (left : CycleResult) → Closes lines h left → IsExact h left)
IsWholeReport lines r = Unit {0}
