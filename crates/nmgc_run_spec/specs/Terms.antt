-- Terms for parts of a run's definitions: for the contracts of a run's steps, for laws and for proofs.
use Rattle.std.specs.Prelude.{ℕ, ◌≡◌, ◌≤◌, List, [], length, map, flat_map, Some, Bool, not, ◌&&◌, nat_lt, nat_le, slice_index_or, min}
use Rattle.std.specs.List.{list_any}
use Rattle.nmgc_limits.specs.declared.mutators.TheConstants.{REGISTERS}
use Rattle.nmgc_world_spec.specs.{declared.command.Command.Command, declared.command.Reply.Reply, declared.value.Name.Name, declared.node.Node.Node, World.words_made, World.World, World.node_of, Reach.Row, Reach.IsReached, Reach.IsRoot}
use Rattle.nmgc_segment.specs.declared.state.State.TheVariants as stands
use Rattle.nmgc_object.specs.Words.{reserve_count, block_size}
use Rattle.nmgc_alloc.specs.AllocState.{AllocState, LiesIn, all_retired, cells, count_in}
use Rattle.nmgc_heap_spec.specs.Objects.{size_of}
use Rattle.nmgc_stop_spec.specs.Cycle.{Cycle, ExceptShared}
use Rattle.nmgc_journal.specs.declared.report.MutatorEnd.{MutatorEnd}
use Rattle.nmgc_run_spec.specs.Run.{IsSoon, IsPaced, answered, has_left, Plan, State, Progress, SweepsIn, is_idle, layout_of}

-- a slice that may have `commands` more commands, with `words` words left in the nursery, has room for this command
abbrev pub is_next : ℕ → ℕ → Command → Bool
is_next commands words c = nat_lt 0 commands && nat_le (words_made c) words

-- some slice has a command with this property
abbrev pub some_asks : (Command → Bool) → List (List Command) → Bool
some_asks such commands = list_any (list_any such) commands

-- the rows of mutator `m` in a round
abbrev pub own_rows : List (List Command) → List (List Reply) → ℕ → List Row
own_rows commands replies = λ m. answered m (slice_index_or commands m []) (slice_index_or replies m [])

-- the number of segments that wait to be swept
abbrev pub waiting_count : AllocState → ℕ
waiting_count allocation = count_in stands.Sweeping allocation

-- the sweep beside a round: a cycle that is sweeping sweeps `quota` of the waiting segments, or all if fewer wait
abbrev pub SweepsBeside : ℕ → Progress → AllocState → AllocState → Type 0
SweepsBeside quota progress old new = SweepsIn progress (min quota (waiting_count old)) old new

-- the sweep of a full cycle at a stop: it sweeps all waiting segments
abbrev pub SweepsRest : Progress → AllocState → AllocState → Type 0
SweepsRest progress old new = SweepsIn progress (waiting_count old) old new

-- the reserve: the number of segments that must be free for a round to be sure of its promotion
abbrev pub reserve_of : Plan → ℕ
reserve_of plan = reserve_count (layout_of plan)

-- an object other than g that strong fields reach from the roots of a world
abbrev pub IsStrongObject : World → Name → Type 0
IsStrongObject w = ExceptShared (IsReached w (IsRoot w))

-- the closing rule: a cycle may be closed up to the later of two stops. These are the first after its snapshot, and the first
-- by which all kept objects could have been marked. Before a round has passed it may not be closed, nor before all steady
-- objects could have been marked
abbrev pub MayClose : ℕ → Cycle → ℕ → Type 0
MayClose quota c closed = IsSoon quota c closed × IsPaced quota c closed

-- the state once current and active segments are filed as filled, so that the next cycle sweeps every segment
abbrev pub with_all_retired : State → State
with_all_retired s = record s { allocation = all_retired s.allocation }

-- the whole run is done: no commands are left, and no cycle is in progress
abbrev pub is_done : State → Bool
is_done s = not (has_left s.left) && is_idle s.progress

-- the registers of all mutators, one after another
abbrev pub registers_of : List MutatorEnd → List ℕ
registers_of mutators = flat_map (λ (m : MutatorEnd). m.registers) mutators

-- the finaliser queues of all mutators
abbrev pub queues_of : List MutatorEnd → List (List ℕ)
queues_of mutators = map (λ (m : MutatorEnd). m.queue) mutators

-- the next serials of all mutators
abbrev pub serials_of : List MutatorEnd → List ℕ
serials_of mutators = map (λ (m : MutatorEnd). m.serial) mutators

-- the mutator has exactly `REGISTERS` registers
abbrev pub HasAllRegisters : MutatorEnd → Type 0
HasAllRegisters = λ m. length m.registers ≡ REGISTERS
