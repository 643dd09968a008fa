-- The facts that a whole trace of format 3 shows about the marker, though the marker isn't in the trace.
use Rattle.std.specs.Prelude.{◌≡◌, ◌+◌, ◌↔◌, ℕ, List, ◌∷◌, ◌++◌, length, IsSome, Contains}
use Rattle.nmgc_world_spec.specs.{declared.value.Name.Name, World.World, World.node_of, Known.IsWorld, Reach.IsReached}
use Rattle.nmgc_barrier_laws.specs.FieldCycle.{FieldMarker, BesideFields, HasReadAll, WatchesFields, IsFieldEnd, KeepsName}
use Rattle.nmgc_field_checker.specs.{Heaps.named, Marking.Running, Reports.Left}
use Rattle.nmgc_field_checker.specs.declared.watch.FieldPhase.TheVariants as phase
use Rattle.nmgc_field_reader.specs.{declared.report.FieldReport.FieldReport, FieldTraces.Comes, FieldTraces.FieldTrace, FieldTraces.Happens, FieldTraces.nothing_yet}
use Rattle.nmgc_field_reader.specs.declared.report.FieldReport.TheVariants as report

-- a cycle that ends in a trace, with its result: the lines before its close lead into the cycle, and the close can happen
pub record Closes (lines : List (List ℕ)) (running : Running) (left : Left) : Type 0 where
  pub earlier : List (List ℕ)
  pub close : List ℕ
  pub later : List (List ℕ)
  pub lines_are : lines ≡ earlier ++ close ∷ later
  pub before : FieldTrace
  pub after : FieldTrace
  pub comes : Comes 2 nothing_yet earlier before
  pub marking : before.watch.phase ≡ phase.Marking running
  pub happens : Happens (length earlier + 2) before close after
  pub ends : after.watch.phase ≡ phase.Ended left

-- an exact cycle. It began with a heap, mutators and roots, and the lines of the rule led to its state. Each marker that is done
-- has marked exactly the objects with which reports are compared. Nothing is lost: if mutators hold only kept objects and new
-- objects, every object of the snapshot that they can reach is kept
pub record IsExact (running : Running) (left : Left) : Type 0 where
  pub begins : World
  pub mutators : List ℕ
  pub roots : List Name
  pub is_world : IsWorld begins
  pub watches : WatchesFields begins mutators roots running.cycle
  pub ends : IsFieldEnd running.cycle
  pub marks : (s : FieldMarker) → BesideFields begins mutators roots running.cycle s → HasReadAll running.cycle s → (object : ℕ) →
      Contains s.marked (named object) ↔ Contains left.kept.items object
  pub keeps : (held : List Name) →
      ((name : Name) → Contains held name → IsSome (node_of running.cycle.snapshot name) → KeepsName running.cycle name) → (object : ℕ) →
      IsReached running.cycle.world (λ (root : Name). Contains held root) (named object) → IsSome (node_of running.cycle.snapshot (named object)) →
      Contains left.kept.items object

-- the theorem about a report: in a whole trace a cycle ends, and each cycle that ends is exact
abbrev pub IsWholeReport : List (List ℕ) → FieldReport → Type 0
IsWholeReport lines report.Whole = ((running : Running) × (left : Left) × Closes lines running left) ×
    ((running : Running) (left : Left) → Closes lines running left → IsExact running left)
IsWholeReport lines r = Unit {0}
