-- The heap after a sweep: the places of freed names are gone, and freed names are no longer used.
--
-- A round or stop with a sweep is first treated as if the segments stayed, with all places. Then the freed places go.
use Rattle.std.specs.Prelude.{ℕ, ◌≡◌, ◌≢◌, ◌≤◌, List, [], ◌∷◌, Contains, IsSome, Some}
use Rattle.nmgc_world_spec.specs.{declared.command.Reply.Reply, declared.node.Node.Node, declared.value.Name.Name, declared.value.Value.TheVariants.Ref, World.World, World.node_of, World.shared_name, Reach.Row}
use Rattle.nmgc_segment.specs.declared.state.State.TheVariants as stands
use Rattle.nmgc_object.specs.{Words.nursery_place, declared.layout.Layout.Layout, declared.layout.Nursery.Nursery}
use Rattle.nmgc_alloc.specs.{AllocState.Segments, AllocState.StandsFor, AllocState.AllocState, AllocState.SweepsSome, AllocState.LiesIn, AllocState.cells, AllocState.count_in, Segments.IsSegments, Invariant.LieOnce, Invariant.LiesNowhere, Invariant.HasBlock}
use Rattle.nmgc_heap_spec.specs.{Objects.Place, Objects.holds, Objects.free_slots, Tracked.IsTracked}
use Rattle.nmgc_stop_spec.specs.{Nurseries.LieInOrder, Remembers.Remembers, Cycle.IsKeptIn, Cycle.Cycle}
use Rattle.nmgc_journal.specs.declared.report.MutatorEnd.{MutatorEnd}
use Rattle.nmgc_collector_laws.specs.Collector.{AreNurseries}
use Rattle.nmgc_run_spec.specs.{Heap.HoldsAtStop, AfterRound.HoldsAfterRound, Heap.snapshots, Run.IsRound, Run.Run, Run.IsRun, Run.last_state, Run.Plan, Run.State, Run.sweeping}
use Rattle.nmgc_run_laws.specs.Sound.{AreSoundBlocks, IsAfterClosing, IsRunnable, LieKnown, WaitKnown}

-- a sweep that frees only untracked names: names stay in their blocks, and all tracked names except g and new objects still
-- have a block. Free variables of tracked names, as an earlier world has them, refer to tracked names
pub record FreesUntracked (earlier : List World) (began w : World) (allocation swept : AllocState) : Type 0 where
  pub once : LieOnce allocation
  pub shared : LiesNowhere allocation shared_name
  pub known : LieKnown began allocation
  pub lies : (number block : ℕ) (name : Name) → LiesIn swept number block name → LiesIn allocation number block name ×
      ((cells swept number).class ≡ (cells allocation number).class)
  pub tracked : (name : Name) → IsTracked w earlier name → name ≢ shared_name → IsSome (node_of began name) → HasBlock swept name
  pub free : (e : World) (name n : Name) (before : Node) → Contains earlier e → IsTracked w earlier name → node_of e name ≡ Some before →
      Contains (free_slots before) (holds (Ref n)) → IsTracked w earlier n

-- the law that a closed cycle's sweep beside a run's round frees only untracked names
abbrev pub RoundFreesUntracked : Type 0
RoundFreesUntracked = (plan : Plan) (run : Run) (c : Cycle) (closed : ℕ) (replies : List (List Reply)) (rows : List Row) (t : State) →
    IsRunnable plan → IsRun plan run → IsRound plan.config (last_state run) replies rows t → (last_state run).progress ≡ sweeping c closed →
    FreesUntracked ((last_state run).world ∷ []) (last_state run).world t.world (last_state run).allocation t.allocation

-- the law that a closed cycle's sweep at a stop frees only untracked names
abbrev pub StopFreesUntracked : Type 0
StopFreesUntracked = (layout : Layout) (c : Cycle) (w : World) (allocation swept : AllocState) (count : ℕ) → AreSoundBlocks layout allocation →
    LieKnown w allocation → IsAfterClosing c w → WaitKnown c allocation →
    ((name : Name) → IsTracked w [] name → name ≢ shared_name → HasBlock allocation name) → SweepsSome (IsKeptIn c) count allocation swept →
    FreesUntracked [] w w allocation swept

-- the law that a sweep leaves at least as many segments free, so the reserve stays free
abbrev pub FreeGrows : Type 0
FreeGrows = (c : Cycle) (count : ℕ) (old new : AllocState) → SweepsSome (IsKeptIn c) count old new → count_in stands.Free old ≤ count_in stands.Free new

-- freed places go: fewer places are left, among them all places of tracked names and all places in nurseries
pub record DropsFreed (layout : Layout) (earlier : List World) (w : World) (places fewer : List Place) : Type 0 where
  pub old : (p : Place) → Contains fewer p → Contains places p
  pub tracked : (p : Place) → Contains places p → IsTracked w earlier p.name → Contains fewer p
  pub young : (p : Place) → Contains places p → nursery_place layout 0 ≤ p.at → Contains fewer p

-- the law that words and swept segments represent the state after a round, at fewer places, if no listed weak pointer was freed
abbrev pub SweptHoldsAfterRound : Type 0
SweptHoldsAfterRound =
    (layout : Layout) (s t : State) (swept : AllocState) (places : List Place) (words : List ℕ) (old new : Segments) (ends : List MutatorEnd)
    (weaks : List Place) → HoldsAfterRound layout s t places words old ends weaks → IsSegments old →
    FreesUntracked (s.world ∷ snapshots t.progress) s.world t.world t.allocation swept
    → StandsFor new words swept → new.layout ≡ layout → ((p : Place) → Contains weaks p → HasBlock swept p.name)
    → (fewer : List Place) × HoldsAfterRound layout s (record t { allocation = swept }) fewer words new ends weaks ×
    DropsFreed layout (s.world ∷ snapshots t.progress) t.world places fewer

-- the law that, if no listed weak pointer was freed, words and swept segments represent the state at a stop, at fewer places
abbrev pub SweptHoldsAtStop : Type 0
SweptHoldsAtStop = (layout : Layout) (s : State) (swept : AllocState) (words : List ℕ) (old new : Segments) (ends : List MutatorEnd)
    (weaks : List Place) → (h : HoldsAtStop layout s words old ends weaks) → IsSegments old →
    FreesUntracked (snapshots s.progress) s.world s.world s.allocation swept
    → StandsFor new words swept → new.layout ≡ layout → ((p : Place) → Contains weaks p → HasBlock swept p.name)
    → (k : HoldsAtStop layout (record s { allocation = swept }) words new ends weaks) × DropsFreed layout (snapshots s.progress) s.world h.places k.places

-- the law that a loss of freed places leaves the nurseries, their order, and a round's lists for its promotion as they were
abbrev pub DropKeepsRound : Type 0
DropKeepsRound = (layout : Layout) (earlier : List World) (w : World) (places fewer : List Place) (nurseries : List Nursery)
    (recorded weaks : List ℕ) → DropsFreed layout earlier w places fewer → AreNurseries layout places w nurseries →
    LieInOrder (nursery_place layout 0) places → Remembers (nursery_place layout 0) earlier places w recorded weaks →
    AreNurseries layout fewer w nurseries × LieInOrder (nursery_place layout 0) fewer × Remembers (nursery_place layout 0) earlier fewer w recorded weaks
