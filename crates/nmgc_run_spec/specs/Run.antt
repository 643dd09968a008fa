-- A run: its states, the slice of a mutator, a round, the closing of a cycle, and a stop.
--
-- A state has the world of the reference heap and the allocation state: no words, no marks and no addresses. The collector's
-- marks so far are left out, since a cycle is judged by its closing alone. The state's number is the last stop's, or after
-- a round the coming stop's.
use Rattle.std.specs.List.{list_any}
use Rattle.std.specs.Prelude.{Bool, Contains, IsSome, List, None, Option, Some, [], drop, false, flat_map, if◌then◌else◌, length, map, min, nat_le, nat_lt, not, slice_index_or, true, ℕ, ◌&&◌, ◌*◌, ◌++◌, ◌+◌, ◌-◌, ◌<◌, ◌||◌, ◌∷◌, ◌≡◌, ◌≢◌, ◌≤◌, ◌⊎◌}
use Rattle.nmgc_world_spec.specs.Reach.{AtMost, Counts, HasStrongField, HoldsThroughout, IsLegal, IsOrderOf, IsReached, IsRoot, Lists, ListsNumbers, MoreThan, RefersTo, Row, closed, owed_by, replayed}
use Rattle.nmgc_world_spec.specs.World.{World, new_world, node_of, shared_name, step, words_made}
use Rattle.nmgc_world_spec.specs.{declared.command.Command.Command, declared.command.Command.TheVariants.Collect, declared.command.Command.TheVariants.Full, declared.command.Command.TheVariants.Yield, declared.command.Reply.Reply, declared.value.Name.Name}
use Rattle.nmgc_world_spec.specs.declared.value.Value.TheVariants as value
use Rattle.nmgc_script.specs.{declared.script.Config.Config, declared.script.Script.Script}
use Rattle.nmgc_object.specs.{Words.reserve_count, declared.layout.Layout.Layout}
use Rattle.nmgc_segment.specs.declared.state.State.TheVariants as stands
use Rattle.nmgc_alloc.specs.AllocState.{AllocState, IsIn, NoneIs, SweepsSome, all_empty, all_retired, count_in, cycle_begun}
use Rattle.nmgc_stop_spec.specs.Cycle.{Cycle, ExceptShared, IsDeadIn, IsFreedIn, IsHadIn, IsKeptIn, IsPromoted, IsSweptIn, PlacesEach}
use Rattle.nmgc_journal.specs.{declared.report.CycleRow.CycleRow, declared.report.End.End, declared.report.End.TheVariants.Done, declared.report.End.TheVariants.HeapFull, declared.report.Phase.Phase, declared.report.Phase.TheVariants.Idle, declared.report.Phase.TheVariants.Marking, declared.report.Phase.TheVariants.Sweeping, declared.report.RoundRows.RoundRows, declared.report.StopRow.StopRow}

-- a plan: the sizes of the heap, and a program for each mutator
pub record Plan : Type 0 where
  pub config : Config
  pub threads : List (List Command)

-- the plan of a script: the script without its version, which has no effect on the run
abbrev pub plan_of : Script → Plan
plan_of script = record { config = script.config; threads = script.threads }

-- the collector's progress: idle, marking in a cycle, or sweeping in a cycle that was closed at stop `closed`
pub data Progress : Type 0 where
  idle : Progress
  marking : (c : Cycle) → Progress
  sweeping : (c : Cycle) (closed : ℕ) → Progress

-- the state of a run: its stop, world, blocks, the collector's progress, the cycles begun, the requests, and the programs left
pub record State : Type 0 where
  pub number : ℕ
  pub world : World
  pub allocation : AllocState
  pub progress : Progress
  pub begun : ℕ
  pub collect : Bool
  pub full : Bool
  pub left : List (List Command)

-- the phase that a stop's row reports
abbrev pub phase_of : Progress → Phase
phase_of idle = Idle
phase_of (marking c) = Marking
phase_of (sweeping c closed) = Sweeping

-- no cycle is in progress
abbrev pub is_idle : Progress → Bool
is_idle idle = true
is_idle _ = false

-- the number of free segments
abbrev pub free_count : State → ℕ
free_count s = count_in stands.Free s.allocation

-- the sweep of this number of waiting segments: a cycle that is sweeping sweeps them, and without such a cycle none is swept
abbrev pub SweepsIn : Progress → ℕ → AllocState → AllocState → Type 0
SweepsIn (sweeping c closed) count old new = SweepsSome (IsKeptIn c) count old new
SweepsIn _ count old new = new ≡ old

-- the layout of a plan's heap, with the nurseries
abbrev pub layout_of : Plan → Layout
layout_of plan = record { segments = plan.config.segments; words = plan.config.words; nursery = plan.config.nursery; mutators = length plan.threads }

-- the state of a run before its first stop
abbrev pub start : Plan → State
start plan = record {
  number = 0;
  world = new_world (length plan.threads);
  allocation = all_empty plan.config.segments;
  progress = idle;
  begun = 0;
  collect = false;
  full = false;
  left = plan.threads;
}

-- the cycle that begins in this state
abbrev pub next_cycle : State → Cycle
next_cycle s = record { number = s.begun + 1; from = s.number; snapshot = s.world; heap = s.allocation; rows = []; earlier = [] }

-- the state after a cycle began: its world is the snapshot, and the filled segments wait to be swept
abbrev pub cycle_started : State → State
cycle_started s = record s { allocation = cycle_begun s.allocation; progress = marking (next_cycle s); begun = s.begun + 1 }

-- the command asks for a cycle
abbrev pub is_collect : Command → Bool
is_collect Collect = true
is_collect _ = false

-- the command asks for a full cycle
abbrev pub is_full : Command → Bool
is_full Full = true
is_full _ = false

-- the command ends a slice: it yields, or asks for a cycle or a full cycle
abbrev pub ends_slice : Command → Bool
ends_slice Yield = true
ends_slice c = is_collect c || is_full c

-- the slice of a program: its commands up to and with the first that ends a slice. They are at most `commands`, and stop before
-- the first whose object lacks room in the rest of `words` words
abbrev pub slice : ℕ → ℕ → List Command → List Command
slice commands words [] = []
slice commands words (c ∷ program) = if nat_lt 0 commands && nat_le (words_made c) words then c ∷
    (if ends_slice c then [] else slice (commands - 1) (words - words_made c) program) else []

-- a mutator's slice in a round: at most `config.slice` commands, and none whose object lacks room in the nursery
abbrev pub slice_of : Config → List Command → List Command
slice_of config left = slice config.slice config.nursery left

-- the commands of a program that are left after its slice
abbrev pub rest_of : Config → List Command → List Command
rest_of config left = drop (length (slice_of config left)) left

-- the slices of all mutators
abbrev pub slices : Config → List (List Command) → List (List Command)
slices config left = map (slice_of config) left

-- some program has commands left
abbrev pub has_left : List (List Command) → Bool
has_left left = list_any (λ program. nat_lt 0 (length program)) left

-- the rows of a mutator's commands with their replies
abbrev pub answered : ℕ → List Command → List Reply → List Row
answered m (c ∷ commands) (reply ∷ replies) = record { mutator = m; command = c; reply = reply } ∷ answered m commands replies
answered m _ _ = []

-- the history of a round: its rows are each mutator's commands with their replies, in an order that is legal from this world
pub record IsHistory (w : World) (commands : List (List Command)) (replies : List (List Reply)) (rows : List Row) : Type 0 where
  pub lengths : map length replies ≡ map length commands
  pub order : IsOrderOf (λ m. answered m (slice_index_or commands m []) (slice_index_or replies m [])) rows
  pub legal : IsLegal w rows

-- the progress after a round: a cycle that is marking takes note of the rows
abbrev pub noted : Progress → List Row → Progress
noted (marking c) rows = marking (record c { rows = c.rows ++ rows; earlier = c.rows })
noted progress rows = progress

-- a round: mutators do their slices in a legal order, and a sweeping cycle sweeps its quota of segments, or all if fewer wait
pub record IsRound (config : Config) (s : State) (replies : List (List Reply)) (rows : List Row) (t : State) : Type 0 where
  pub history : IsHistory s.world (slices config s.left) replies rows
  pub swept : SweepsIn s.progress (min config.quota (count_in stands.Sweeping s.allocation)) s.allocation t.allocation
  pub rest : t ≡ record s {
    number = s.number + 1;
    world = replayed s.world rows;
    allocation = t.allocation;
    progress = noted s.progress rows;
    collect = s.collect || list_any (list_any is_collect) (slices config s.left);
    full = s.full || list_any (list_any is_full) (slices config s.left);
    left = map (rest_of config) s.left;
  }

-- When a cycle may be closed, and the effect of its closing.
--
-- The schedule decides when the marker has nothing left to scan, so a run has a choice here, between two bounds. Both compare
-- the scans of the rounds since the snapshot, `quota` each, with a set of objects (`IsMet`). A cycle may be closed once the
-- scans suffice for the steady objects, which fields lead to that stay the same. It may go on while the found objects are more
-- than the scans: fields lead to them that referred to the name at some time since the snapshot. If the commands of the last
-- round owed nothing, both sets are the same, and the bounds determine whether the cycle is closed. Otherwise the schedule is
-- free: a field that changes in the last round may be read before or after. A closing forced by a full cycle may come while
-- steady objects are still to be scanned. The bounds `work`, `IsSoon` and `IsForcedSoon` follow from the two.

-- the objects owed by the commands of a history that begins with this world, in order
abbrev pub owed : World → List Row → List Name
owed w [] = []
owed w (row ∷ rows) = owed_by w row.mutator row.command ++ owed (step w row.mutator row.command).0 rows

-- the property holds in some world of a history: in the world with which it begins, or after a row
abbrev pub HoldsOnce : (World → Type 0) → World → List Row → Type 0
HoldsOnce P w [] = P w
HoldsOnce P w (row ∷ rows) = P w ⊎ HoldsOnce P (step w row.mutator row.command).0 rows

-- the met names of a cycle: the least set with the snapshot's roots, the names in its slots of g, and its names that earlier
-- rounds owed. It follows strong fields, except of g, to the snapshot's names; a field counts in the worlds of `Holds`
pub data IsMet (Holds : (World → Type 0) → World → List Row → Type 0) (c : Cycle) : Name → Type 0 where
  root : (name : Name) → IsRoot c.snapshot name → IsMet Holds c name
  slot : (name : Name) → RefersTo c.snapshot shared_name name → IsMet Holds c name
  handed : (name : Name) → Contains (owed c.snapshot c.earlier) name → IsSome (node_of c.snapshot name) → IsMet Holds c name
  field : (name target : Name) (i : ℕ) → IsMet Holds c name → name ≢ shared_name →
      Holds (λ w. HasStrongField w name i (value.Ref target)) c.snapshot c.rows → IsSome (node_of c.snapshot target) → IsMet Holds c target

-- a steady object of a cycle: an object other than g that the scans meet in any case, by fields that stay the same
abbrev pub IsSteadyObject : Cycle → Name → Type 0
IsSteadyObject c = ExceptShared (IsMet HoldsThroughout c)

-- a found object of a cycle: an object other than g that the scans may meet, by fields that referred to it at some time
abbrev pub IsFoundObject : Cycle → Name → Type 0
IsFoundObject c = ExceptShared (IsMet HoldsOnce c)

-- not too late: at most one round after the snapshot, or the rounds before the last scan fewer objects than the cycle keeps
abbrev pub IsSoon : ℕ → Cycle → ℕ → Type 0
IsSoon quota c closed = (closed ≤ c.from + 1) ⊎ ((kept : ℕ) × Counts (ExceptShared (IsKeptIn c)) kept × ((closed - c.from - 1) * quota < kept))

-- not too early: a round passed, and the scans suffice for the steady objects. If the cycle's rows owe nothing, they also suffice
-- for all objects except g that strong fields reach from the snapshot's roots
pub record IsPaced (quota : ℕ) (c : Cycle) (closed : ℕ) : Type 0 where
  pub after : c.from + 1 ≤ closed
  pub steady : AtMost (IsSteadyObject c) ((closed - c.from) * quota)
  pub work : owed c.snapshot c.rows ≡ [] → (least : ℕ) × Counts (ExceptShared (IsReached c.snapshot (IsRoot c.snapshot))) least × (least ≤ (closed - c.from) * quota)

-- the waiting rule: a cycle may go on at a stop if its found objects are more than the scans of the rounds since its snapshot
abbrev pub MayWait : ℕ → Cycle → ℕ → Type 0
MayWait quota c number = MoreThan (IsFoundObject c) ((number - c.from) * quota)

-- the closing of a cycle: its dead weak pointers die, their finalisers are queued, and sweeping begins
pub record Closes (c : Cycle) (s t : State) : Type 0 where
  pub dead : List Name
  pub lists : Lists (IsDeadIn c) dead
  pub rest : t ≡ record s { world = closed s.world dead; progress = sweeping c s.number }

-- a cycle that is marking goes on, by the waiting rule, or is closed, neither too late nor too early (the closing rule)
abbrev pub ClosesOrWaits : ℕ → Progress → State → State → Type 0
ClosesOrWaits quota (marking c) s t = ((t ≡ s) × MayWait quota c s.number) ⊎ (Closes c s t × (IsSoon quota c s.number × IsPaced quota c s.number))
ClosesOrWaits quota _ s t = t ≡ s

-- the forced closing: a full cycle closes a cycle that is marking, whatever is left to scan
abbrev pub ClosesNow : Progress → State → State → Type 0
ClosesNow (marking c) s t = Closes c s t
ClosesNow _ s t = t ≡ s

-- a forced closing at this stop isn't too late: a cycle that is marking keeps the closing rule's first bound
abbrev pub IsForcedSoon : ℕ → Progress → ℕ → Type 0
IsForcedSoon quota (marking c) number = IsSoon quota c number
IsForcedSoon quota _ number = Unit {0}

-- A stop, step by step: promote, close, end, then do a full cycle or begin a cycle, with the stop's row and answer.

-- no segment waits to be swept
abbrev pub IsSwept : State → Type 0
IsSwept s = NoneIs (IsIn stands.Sweeping) s.allocation

-- the census of a cycle closed and ended at these stops: swept segments, their objects, freed objects, the dead and the kept
pub record IsCensus (c : Cycle) (closed ended : ℕ) (row : CycleRow) : Type 0 where
  pub number : row.number ≡ c.number
  pub from : row.from ≡ c.from
  pub closed_at : row.closed ≡ closed
  pub ended_at : row.ended ≡ ended
  pub swept : ListsNumbers (IsSweptIn c) row.swept
  pub had : Lists (IsHadIn c) row.had
  pub freed : Lists (IsFreedIn c) row.freed
  pub dead : Lists (IsDeadIn c) row.dead
  pub kept : Counts (ExceptShared (IsKeptIn c)) row.kept

-- the end of a cycle: its row reports its census, and the collector becomes idle
pub record Ends (c : Cycle) (closed : ℕ) (s t : State) (cycles : List CycleRow) : Type 0 where
  pub row : CycleRow
  pub census : IsCensus c closed s.number row
  pub cycles_are : cycles ≡ row ∷ []
  pub rest : t ≡ record s { progress = idle }

-- a cycle that is sweeping ends if no segment waits, and otherwise goes on
abbrev pub EndsOrWaits : Progress → State → State → List CycleRow → Type 0
EndsOrWaits (sweeping c closed) s t cycles = (IsSwept s × Ends c closed s t cycles) ⊎ ((IsSwept s → ⊥) × (t ≡ s) × (cycles ≡ []))
EndsOrWaits _ s t cycles = (t ≡ s) × (cycles ≡ [])

-- a cycle in progress is closed if it is marking, all waiting segments are swept, and the cycle ends, all at this stop
pub record Finishes (s t : State) (cycles : List CycleRow) : Type 0 where
  pub closed : State
  pub closes : ClosesNow s.progress s closed
  pub swept : State
  pub sweeps : SweepsIn closed.progress (count_in stands.Sweeping closed.allocation) closed.allocation swept.allocation
  pub others : swept ≡ record closed { allocation = swept.allocation }
  pub ends : EndsOrWaits swept.progress swept t cycles

-- the heap is short: commands are left, and fewer segments are free than the reserve, which a round may need for its objects
abbrev pub is_short : Plan → State → Bool
is_short plan s = has_left s.left && nat_lt (free_count s) (reserve_count (layout_of plan))

-- a full cycle is due: it was asked for, or the heap is short of segments
abbrev pub IsFullDue : Plan → State → Type 0
IsFullDue plan s = (s.full ≡ true) ⊎ (is_short plan s ≡ true)

-- a full cycle: a cycle in progress finishes, then one of all segments in use begins and finishes, and requests are forgotten
pub record DoesFullCycle (s t : State) (cycles : List CycleRow) : Type 0 where
  pub idled : State
  pub before : List CycleRow
  pub finishes : Finishes s idled before
  pub last : State
  pub own : List CycleRow
  pub again : Finishes (cycle_started (record idled { allocation = all_retired idled.allocation })) last own
  pub cycles_are : cycles ≡ before ++ own
  pub rest : t ≡ record last { collect = false; full = false }

-- a cycle is due: none is in progress, and either one was asked for, or at least `trigger` segments (0: never) were filled since
-- the last cycle began
abbrev pub IsCycleDue : Config → State → Type 0
IsCycleDue config s = (is_idle s.progress ≡ true) × ((s.collect ≡ true) ⊎ ((1 ≤ config.trigger) × (config.trigger ≤ s.allocation.fresh)))

-- a cycle begins if it is due
abbrev pub BeginsOrWaits : Config → State → State → Type 0
BeginsOrWaits config s t = (IsCycleDue config s × (t ≡ record (cycle_started s) { collect = false })) ⊎ ((IsCycleDue config s → ⊥) × (t ≡ s))

-- if a full cycle is due, the stop does it and closes no cycle too late; otherwise a cycle begins if one is due
abbrev pub Proceeds : Plan → State → State → List CycleRow → Type 0
Proceeds plan s t cycles = (IsFullDue plan s × DoesFullCycle s t cycles × IsForcedSoon plan.config.quota s.progress s.number) ⊎
    ((IsFullDue plan s → ⊥) × BeginsOrWaits plan.config s t × (cycles ≡ []))

-- the row of a stop that promoted `count` objects
abbrev pub stop_row : State → ℕ → StopRow
stop_row s count = record {
  number = s.number;
  phase = phase_of s.progress;
  free = free_count s;
  filled = count_in stands.Filled s.allocation;
  sweep = count_in stands.Sweeping s.allocation;
  promoted = count;
}

-- the answer of a stop: heap full if the heap is short, else done if no commands are left and the collector is idle, else none
abbrev pub answer_of : Plan → State → Option End
answer_of plan s = if is_short plan s then Some (HeapFull (free_count s) (reserve_count (layout_of plan))) else
    (if not (has_left s.left) && is_idle s.progress then Some Done else None)

-- the promotion of a round's objects: the names promoted since the world `began` are placed in order of names
pub record Promotes (layout : Layout) (began : World) (s t : State) (count : ℕ) : Type 0 where
  pub names : List Name
  pub lists : Lists (IsPromoted began s.world) names
  pub places : PlacesEach layout s.world s.allocation names t.allocation
  pub many : count ≡ length names
  pub rest : t ≡ record s { allocation = t.allocation }

-- a stop, after a round that began with world `began`: promote, close, end, do a full cycle, or else begin a cycle if one is due
pub record IsStop (plan : Plan) (began : World) (s t : State) (row : StopRow) (cycles : List CycleRow) : Type 0 where
  pub promoted : State
  pub count : ℕ
  pub promotes : Promotes (layout_of plan) began s promoted count
  pub closed : State
  pub closes : ClosesOrWaits plan.config.quota promoted.progress promoted closed
  pub ended : State
  pub first : List CycleRow
  pub ends : EndsOrWaits closed.progress closed ended first
  pub more : List CycleRow
  pub proceeds : Proceeds plan ended t more
  pub cycles_are : cycles ≡ first ++ more
  pub shown : row ≡ stop_row t count

-- A run: an opening stop, and then rounds, each with a stop after it.
--
-- A run is data, so the one choice of an order for each round is made once, for all statements about the run.

-- a stop: the state after it, its row, and the rows of the cycles that it ended
pub record Stop : Type 0 where
  pub state : State
  pub row : StopRow
  pub cycles : List CycleRow

-- a round and its stop: the replies, the history that gave the replies, the state after the round, and the stop
pub record Turn : Type 0 where
  pub replies : RoundRows
  pub history : List Row
  pub worked : State
  pub stop : Stop

-- a run: the opening stop, and the rounds with their stops
pub record Run : Type 0 where
  pub opening : Stop
  pub turns : List Turn

-- the state after a list of rounds with their stops
abbrev pub state_after : State → List Turn → State
state_after s [] = s
state_after s (turn ∷ turns) = state_after turn.stop.state turns

-- the state after the last stop of a run
abbrev pub last_state : Run → State
last_state run = state_after run.opening.state run.turns

-- a round and its stop in a run: they begin with the state of a stop that didn't end the run
pub record IsTurn (plan : Plan) (s : State) (turn : Turn) : Type 0 where
  pub goes_on : answer_of plan s ≡ None
  pub round : IsRound plan.config s turn.replies.replies turn.history turn.worked
  pub stop : IsStop plan s.world turn.worked turn.stop.state turn.stop.row turn.stop.cycles

-- rounds with their stops that follow one another in a run
abbrev pub AreTurns : Plan → State → List Turn → Type 0
AreTurns plan s [] = Unit {0}
AreTurns plan s (turn ∷ turns) = IsTurn plan s turn × AreTurns plan turn.stop.state turns

-- a run of a plan, up to its end or to an earlier stop
pub record IsRun (plan : Plan) (run : Run) : Type 0 where
  pub opening : IsStop plan (new_world (length plan.threads)) (start plan) run.opening.state run.opening.row run.opening.cycles
  pub turns : AreTurns plan run.opening.state run.turns

-- the report of a run: the replies of its rounds, the rows of its stops, and the rows of its cycles
pub record AreRowsOf (run : Run) (rounds : List RoundRows) (stops : List StopRow) (cycles : List CycleRow) : Type 0 where
  pub rounds_are : rounds ≡ map (λ (turn : Turn). turn.replies) run.turns
  pub stops_are : stops ≡ run.opening.row ∷ map (λ (turn : Turn). turn.stop.row) run.turns
  pub cycles_are : cycles ≡ run.opening.cycles ++ flat_map (λ (turn : Turn). turn.stop.cycles) run.turns
