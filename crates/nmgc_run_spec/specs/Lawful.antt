-- The lawful report: one run to its end, the heap that it left, and when it ends as heap full.
--
-- No cycle is in progress at the end, and the nurseries are empty. The heap at the end is `HoldsAtEnd`; the heap at any stop is
-- `Heap.HoldsAtStop`. By the law `Ends.EndsAreStops` of `nmgc_run_laws`, both say the same at the end of a run of a script
-- within the limits.
use Rattle.std.specs.Prelude.{Contains, List, Some, [], length, slice_get, slice_index, true, ℕ, ◌+◌, ◌<◌, ◌↔◌, ◌∷◌, ◌≡◌, ◌≤◌}
use Rattle.nmgc_world_spec.specs.Reach.{Counts, IsAliveWeak, IsKept, IsWide, Lists}
use Rattle.nmgc_world_spec.specs.World.{World, new_world, node_of, serial_of, state_of}
use Rattle.nmgc_world_spec.specs.{declared.node.Node.Node, declared.value.Name.Name}
use Rattle.nmgc_script.specs.declared.script.Script.{Script}
use Rattle.nmgc_object.specs.{Words.header_word, Words.name_place, Words.name_word, Words.reserve_count, declared.layout.Layout.Layout, declared.size.TheConstants.HEADER_WORDS, Words.block_size}
use Rattle.nmgc_alloc.specs.AllocState.{AllocState, LiesIn, StandsFor, cells}
use Rattle.nmgc_heap_spec.specs.Objects.{HasSlots, HasZeros, ListMeans, Place, header_of, slots_of, size_of}
use Rattle.nmgc_stop_spec.specs.Cycle.{ExceptShared, IsPlaceAtStop}
use Rattle.nmgc_journal.specs.{Text.kept_count, declared.report.End.End, declared.report.End.TheVariants.Done, declared.report.End.TheVariants.HeapFull, declared.report.MutatorEnd.MutatorEnd, declared.report.Report.Report}
use Rattle.nmgc_run_spec.specs.Run.{AreRowsOf, AreTurns, ClosesNow, DoesFullCycle, IsRun, IsStop, Plan, Run, State, Stop, Turn, answer_of, is_short, last_state, layout_of, plan_of, start}

-- each block is large enough for its object, tracked or not
abbrev pub FitBlocks : World → AllocState → Type 0
FitBlocks w allocation = (number block : ℕ) (name : Name) (node : Node) → LiesIn allocation number block name → node_of w name ≡ Some node →
    size_of node ≤ block_size (cells allocation number).class

-- the object of a node lies at a place: its header, then the name, and then its fields
pub record HasObject (places : List Place) (words : List ℕ) (p : Place) (node : Node) : Type 0 where
  pub there : Contains places p
  pub header : slice_index words p.at ≡ header_word (header_of node)
  pub name : slice_index words (name_place p.at) ≡ name_word p.name
  pub fields : HasSlots (Contains places) words (p.at + HEADER_WORDS) (slots_of node)

-- a mutator at the end: the words of its registers and of its queue mean the world's values, and its next serial is the world's
pub record IsMutatorAtEnd (places : List Place) (w : World) (m : ℕ) (own : MutatorEnd) : Type 0 where
  pub registers : ListMeans (Contains places) own.registers (state_of w m).registers
  pub queue : ListMeans (Contains places) own.queue (state_of w m).queue
  pub serial : own.serial ≡ serial_of w m

-- the heap that a run leaves, in its last state. Exactly g and the blocks have places, and objects fit their blocks. Segments and
-- words represent the allocation state, and each name of the wide reach has its object at a place. Registers, queues and
-- serials are the world's, and the listed weak pointers are exactly those that are alive
pub record HoldsAtEnd (layout : Layout) (s : State) (report : Report) : Type 0 where
  pub places : List Place
  pub all : (p : Place) → Contains places p ↔ IsPlaceAtStop layout s.allocation p
  pub layout_is : report.segments.layout ≡ layout
  pub stands : StandsFor report.segments report.words s.allocation
  pub fit : FitBlocks s.world s.allocation
  pub objects : (name : Name) (node : Node) → IsWide s.world name → node_of s.world name ≡ Some node → (at : ℕ) ×
      HasObject places report.words (record { at = at; name = name }) node
  pub zeros : HasZeros report.words
  pub count : length report.mutators ≡ length s.world.mutators
  pub mutators : (m : ℕ) (own : MutatorEnd) → slice_get report.mutators m ≡ Some own → IsMutatorAtEnd places s.world m own
  pub weaks : Lists (IsAliveWeak s.world) report.weaks

-- a lawful report: it describes one run of the script's plan to its end, and the heap that the run left
pub record IsLawful (script : Script) (report : Report) : Type 0 where
  pub run : Run
  pub is_run : IsRun (plan_of script) run
  pub agrees : AreRowsOf run report.rounds report.stops report.cycles
  pub end_is : answer_of (plan_of script) (last_state run) ≡ Some report.end
  pub heap : HoldsAtEnd (layout_of (plan_of script)) (last_state run) report

-- When a run ends as heap full, and how many objects its last cycle then kept.
--
-- Before a stop ends a run as heap full, it does a full cycle. Such a cycle is closed at once, so it keeps the objects that
-- can be reached, by the weak-pointer rule, in the world with which it begins. Each segment still in use after it has a kept
-- object. So if too few segments are free then, the cycle kept more objects than there are segments above the reserve.

-- a stop in a run: the world as the round before it began, the state after that round, and the stop's result
pub record StopInRun (plan : Plan) : Type 0 where
  pub began : World
  pub worked : State
  pub stop : Stop
  pub is : IsStop plan began worked stop.state stop.row stop.cycles

-- the last stop of a list of rounds after a stop: the stop of the last round, or the stop before if there is no round
abbrev pub last_after : (plan : Plan) (before : StopInRun plan) (turns : List Turn) → AreTurns plan before.stop.state turns → StopInRun plan
last_after plan before [] i = before
last_after plan before (turn ∷ turns) i =
    last_after plan (record { began = before.stop.state.world; worked = turn.worked; stop = turn.stop; is = i.0.stop }) turns i.1

-- the last stop of a run: the stop of the last round, or the opening stop, with the world and the state before it
abbrev pub last_stop : (plan : Plan) (run : Run) → IsRun plan run → StopInRun plan
last_stop plan run i =
    last_after plan (record { began = new_world (length plan.threads); worked = start plan; stop = run.opening; is = i.opening }) run.turns i.turns

-- a crowded stop: a full cycle there, once a marking cycle is closed, would keep more objects, without g, than there are
-- segments above the reserve
pub record IsCrowded (plan : Plan) (stop : StopInRun plan) : Type 0 where
  pub closed : State
  pub closes : ClosesNow stop.is.ended.progress stop.is.ended closed
  pub kept : ℕ
  pub counts : Counts (ExceptShared (IsKept closed.world [] [])) kept
  pub more : plan.config.segments < kept + reserve_count (layout_of plan)

-- a stop that leaves the heap full: it did a full cycle, yet commands are left and fewer segments are free than the reserve
pub record LeavesHeapFull (plan : Plan) (stop : StopInRun plan) : Type 0 where
  pub cycle : DoesFullCycle stop.is.ended stop.stop.state stop.is.more
  pub short : is_short plan stop.stop.state ≡ true

-- the end is heap full
abbrev pub IsHeapFull : End → Type 0
IsHeapFull Done = ⊥
IsHeapFull (HeapFull free reserve) = Unit {0}

-- a report of a script's run: it is lawful, and its end is heap full exactly if the run's last stop leaves the heap full. In
-- that case the last cycle kept more objects than there are segments above the reserve, and the last stop is crowded
pub record IsRunOf (script : Script) (report : Report) : Type 0 where
  pub lawful : IsLawful script report
  pub full : IsHeapFull report.end ↔ LeavesHeapFull (plan_of script) (last_stop (plan_of script) lawful.run lawful.is_run)
  pub kept : IsHeapFull report.end → script.config.segments < kept_count report.cycles + reserve_count (layout_of (plan_of script))
  pub crowded : IsHeapFull report.end → IsCrowded (plan_of script) (last_stop (plan_of script) lawful.run lawful.is_run)

-- a run that left the heap full, with the cause: its last stop did a full cycle, left too few segments free, and is crowded
abbrev pub IsFullRun : (script : Script) (report : Report) → IsRunOf script report → Type 0
IsFullRun script report run = LeavesHeapFull (plan_of script) (last_stop (plan_of script) run.lawful.run run.lawful.is_run) ×
    IsCrowded (plan_of script) (last_stop (plan_of script) run.lawful.run run.lawful.is_run)
