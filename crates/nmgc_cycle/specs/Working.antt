-- The slices of a round: the work of a mutator with its seat, and the state after all slices.
use Rattle.std.specs.Prelude.{ℕ, ◌≡◌, ◌||◌, Bool, true, false, ◌+◌, ◌*◌, ◌<◌, ◌≤◌, List, [], ◌++◌, length, map, drop, take, slice_get, slice_index, slice_index_or, Some, vec_capacity}
use Rattle.std.specs.{Int.div_ceil, List.zip}
use Rattle.nmgc_world_spec.specs.{declared.command.Command.Command, declared.command.Reply.Reply}
use Rattle.nmgc_alloc.specs.Segments.{IsSegments}
use Rattle.nmgc_collector_laws.specs.{Owed.IsGathered, Owed.HaveOwed, Owed.gathered, RestMarking.opening_beside, Rest.opening_at, Worked.Done, Collector.IsMarking}
use Rattle.nmgc_heap_spec.specs.Objects.{Place}
use Rattle.nmgc_round.specs.{declared.table.Round.Round, View.Opening, View.Scan, View.whole, Seat.RoundSeat, Seat.seen, Seating.collecting, Finishing.Leaves, Gate.passed}
use Rattle.nmgc_mutator.specs.{declared.mutator.TheConstants.MOST_PUSHED, declared.mutator.Mutator.Mutator, declared.mutator.SliceEnd.SliceEnd, Does.SameLine, Ready.Reserves, Slice.HasRun, Slice.Ended, Slice.tried}
use Rattle.nmgc_mutator.specs.declared.mutator.SliceEnd.TheVariants as ending
use Rattle.nmgc_updrem.specs.{Rings.HavePolled, declared.block.TheConstants.BLOCK_ENTRIES}
use Rattle.nmgc_script.specs.declared.script.Script.{Script}
use Rattle.nmgc_run_spec.specs.{Run.Run, Run.last_state, Run.slice_of, Run.is_collect, Run.is_full, Run.State, Run.Progress, Run.marking, AfterRound.program_of, Terms.some_asks}
use Rattle.nmgc_cycle.specs.{declared.collector.Collector.Collector, declared.round.Lists.Lists, declared.worker.Worker.Worker, Cycles.HasHelped, Keeps.IsAfterStop, Shown.seen as collector_seen}

-- the commands that a mutator has left of its program
abbrev pub left_at : Script → List ℕ → ℕ → List Command
left_at script positions k = drop (slice_index positions k) (program_of script.threads k)

-- a mutator did its slice of these commands, and counted a pass of the gate for each command that it tried
pub record HasWorkedOn (round : Round) (slice : ℕ) (program : List Command) (old new : Worker) : Type 0 where
  pub run : HasRun round (seen old.seat) new.seat old.mutator new.mutator (take new.done program)
  pub ended : Ended program slice new.done new.mutator new.end
  pub turns : new.mutator.turns ≡ passed old.mutator.turns (tried new.done new.end)
  pub most : new.done ≤ slice

-- each worker did its slice of the commands left
pub record HaveAllWorked (round : Round) (script : Script) (positions : List ℕ) (old new : List Worker) : Type 0 where
  pub count : length new ≡ length old
  pub each : (k : ℕ) (d : Worker) → k < length old →
      HasWorkedOn round script.config.slice (left_at script positions k) (slice_index_or old k d) (slice_index_or new k d)

-- whether a slice that ended so asks for a cycle (`is_asking`); whether it asks for a full cycle (`is_asking_full`)
abbrev pub is_asking : SliceEnd → Bool
is_asking ending.Collect = true
is_asking end = false

abbrev pub is_asking_full : SliceEnd → Bool
is_asking_full ending.Full = true
is_asking_full end = false

abbrev pub asks_of : Worker → Bool
asks_of worker = is_asking worker.end

abbrev pub asks_full_of : Worker → Bool
asks_full_of worker = is_asking_full worker.end

-- a worker that did nothing yet: a mutator with its seat
abbrev pub worker_of : Mutator × RoundSeat → Worker
worker_of (m, seat) = record { mutator = m; seat = seat; done = 0; end = ending.Slice }

-- the mutators with their seats, by their numbers
abbrev pub workers_of : List Mutator → List RoundSeat → List Worker
workers_of mutators seats = map worker_of (zip mutators seats)

-- a worker's mutator, its seat, and the number of commands that it did
abbrev pub mutator_of : Worker → Mutator
mutator_of worker = worker.mutator

abbrev pub seat_of : Worker → RoundSeat
seat_of worker = worker.seat

abbrev pub done_by : Worker → ℕ
done_by worker = worker.done

-- empty lists with room for `count` seats
pub record HaveRoom (count : ℕ) (lists : Lists) : Type 0 where
  pub given : (lists.given.items ≡ []) × (count ≤ vec_capacity lists.given)
  pub taken : (lists.taken.items ≡ []) × (count ≤ vec_capacity lists.taken)

-- lists of a mutator with room for the notes of `count` commands: a command pushes eight words at most
pub record HasLists (count : ℕ) (m : Mutator) : Type 0 where
  pub replies : count ≤ m.replies.spare
  pub recorded : count ≤ m.recorded.spare
  pub updrem : MOST_PUSHED * count ≤ m.updrem.spare
  pub young_weaks : count ≤ m.young_weaks.spare
  pub finalised : count ≤ m.finalised.spare

-- a number of entries, rounded up to whole blocks
abbrev pub in_blocks : ℕ → ℕ
in_blocks entries = div_ceil entries BLOCK_ENTRIES * BLOCK_ENTRIES

-- mutators changed only in the room of their lists
pub record AreReserved (old new : List Mutator) : Type 0 where
  pub count : length new ≡ length old
  pub each : (k : ℕ) (d : Mutator) → k < length old → Reserves (slice_index_or old k d) (slice_index_or new k d)

-- the opening of a round after a stop: with the cycle's machine while it marks, and otherwise with the world alone
abbrev pub OpensIn : Progress → State → Collector → List Place → Opening → Type 0
OpensIn (marking k) s c places o = (h : IsMarking k s (collector_seen c) places) × (o ≡ opening_beside c.heap.segments.layout h.core places c.mutators.items)
OpensIn _ s c places o = o ≡ opening_at c.heap.segments.layout s.world places c.mutators.items

-- the round after a stop opens with the state of that stop
abbrev pub OpensAt : Script → Collector → Opening → Type 0
OpensAt script c o = (run : Run) × (h : IsAfterStop script c run) × OpensIn (last_state run).progress (last_state run) c h.at_stop.heap.places o

-- mutator k's part in a round: it did its slice of the commands left, with these replies, and counted a pass of the gate for
-- each command tried. Its finaliser queue has no less room, and its sender is of the same ring
pub record DidSlice (script : Script) (old new : Collector) (k : ℕ) (m n : Mutator) (done : List Done) : Type 0 where
  pub commands : map (λ (d : Done). d.0) done ≡ slice_of script.config (left_at script old.positions.items k)
  pub replies : n.replies.items ≡ m.replies.items ++ map (λ (d : Done). d.1) done
  pub position : slice_index new.positions.items k ≡ slice_index old.positions.items k + length done
  pub end : SliceEnd
  pub ended : Ended (left_at script old.positions.items k) script.config.slice (length done) n end
  pub turns : n.turns ≡ passed m.turns (tried (length done) end)
  pub queue_room : m.queue.spare ≤ n.queue.spare
  pub sends : SameLine m n

-- the collector's part beside the slices, with these scans
pub record HasHelpedBeside (quota : ℕ) (o : Opening) (scans : List Scan) (old new : Collector) : Type 0 where
  pub round : Round
  pub from : RoundSeat
  pub seat : RoundSeat
  pub began : seen from ≡ collecting (whole o)
  pub knows : seen seat ≡ record (collecting (whole o)) { scans = scans }
  pub helped : HasHelped round quota from seat old.heap.segments new.heap.segments old.heap.names old.cycle.progress new.cycle.progress

-- the commands done, without the replies
abbrev pub commands_in : List (List Done) → List (List Command)
commands_in done = map (λ (d : List Done). map (λ (x : Done). x.0) d) done

-- a finished round whose replies aren't reported yet: the words are back, each mutator did its slice and remembers the
-- objects owed, and the collector did its part. A cycle, or a full one, is asked for if it was before or a slice asks for it
pub record DidSlices (script : Script) (o : Opening) (old new : Collector) : Type 0 where
  pub rest : new ≡ record old {
    heap = record old.heap { words = new.heap.words; segments = new.heap.segments };
    cycle = record old.cycle { progress = new.cycle.progress; collect = new.cycle.collect; full = new.cycle.full };
    inbox = new.inbox;
    mutators = new.mutators;
    positions = new.positions;
  }
  pub words : List ℕ
  pub words_are : new.heap.words ≡ Some words
  pub scans : List Scan
  pub seats : List RoundSeat
  pub leaves : Leaves o words (gathered o scans seats)
  pub done : List (List Done)
  pub gathers : IsGathered o scans seats new.mutators.items done
  pub owed : HaveOwed o (gathered o scans seats).parts new.mutators.items
  pub helped : HasHelpedBeside script.config.quota o scans old new
  pub sound : IsSegments new.heap.segments
  pub polled : HavePolled old.inbox new.inbox
  pub collect : new.cycle.collect ≡ (old.cycle.collect || some_asks is_collect (commands_in done))
  pub full : new.cycle.full ≡ (old.cycle.full || some_asks is_full (commands_in done))
  pub positions_are : length new.positions.items ≡ length old.positions.items
  pub each : (k : ℕ) (m n : Mutator) (d : List Done) → slice_get old.mutators.items k ≡ Some m → slice_get new.mutators.items k ≡ Some n →
      slice_get done k ≡ Some d → DidSlice script old new k m n d

-- mutator k did commands from its position on, up to the end of its slice, and counted a pass of the gate for each it tried
pub record HasTried (script : Script) (before after : List ℕ) (k : ℕ) (m n : Mutator) : Type 0 where
  pub done : ℕ
  pub position : slice_index after k ≡ slice_index before k + done
  pub end : SliceEnd
  pub ended : Ended (left_at script before k) script.config.slice done n end
  pub turns : n.turns ≡ passed m.turns (tried done end)

-- each mutator did commands from its position on, up to the end of its slice, with a pass of the gate for each it tried
abbrev pub HaveTried : Script → Collector → Collector → Type 0
HaveTried script old new = (k : ℕ) (m n : Mutator) → slice_get old.mutators.items k ≡ Some m → slice_get new.mutators.items k ≡ Some n →
    HasTried script old.positions.items new.positions.items k m n

-- a mutator without its replies, but with their room, and otherwise unchanged
abbrev pub cleared : Mutator → Mutator
cleared m = record m { replies = record { items = []; spare = m.replies.spare + length m.replies.items } }

-- the replies of a round, mutator by mutator
abbrev pub replies_of : List Mutator → List (List Reply)
replies_of mutators = map (λ (m : Mutator). m.replies.items) mutators
