-- The invariant of a collector, from call to call.
use Rattle.std.specs.Prelude.{ℕ, ◌≡◌, ◌<◌, ◌≤◌, ◌⊎◌, List, [], length, slice_get, slice_index, Some, None, IsSome, vec_capacity}
use Rattle.nmgc_world_spec.specs.{declared.command.Reply.Reply, Reach.Row}
use Rattle.nmgc_alloc.specs.Segments.{IsSegments}
use Rattle.nmgc_minor.specs.Promotion.{IsFor}
use Rattle.nmgc_mutator.specs.{declared.mutator.Mutator.Mutator, Ready.IsWhole}
use Rattle.nmgc_script.specs.declared.script.Script.{Script}
use Rattle.nmgc_journal.specs.{declared.report.End.End, declared.report.End.TheVariants.Done, declared.report.End.TheVariants.HeapFull}
use Rattle.nmgc_run_spec.specs.{Run.State, Run.Progress, Run.idle, Run.marking, Run.sweeping, Run.plan_of, Run.layout_of, Run.Run, Run.Turn, Run.last_state, AfterRound.with_turn}
use Rattle.nmgc_stop_spec.specs.Cycle.{Cycle}
use Rattle.nmgc_run_laws.specs.{Sound.HasBlocks, Statements.answered_count}
use Rattle.nmgc_collector_laws.specs.Collector.{IsNew, IsAtStop, IsAfterRound}
use Rattle.nmgc_cycle.specs.{declared.collector.Collector.Collector, declared.stop.StopEnd.StopEnd, Bound.AreFewAtStop, Bound.AreFewBeforeStop, Lined.IsLined, Shown.seen, Shown.sweeper_in}
use Rattle.nmgc_cycle.specs.declared.stop.StopEnd.TheVariants as answer
use Rattle.nmgc_sweep.specs.{NameTable.AreNamed, NameTable.HaveEntries, Sweeper.HasNotes, Sweeper.AreLeft, Work.IsAtWork}

-- the sweeper from its cycle's beginning on: it has noted the segments to be swept, and exactly those that wait are left
pub record HasSweeper (k : Cycle) (c : Collector) : Type 0 where
  pub notes : HasNotes k (sweeper_in c.cycle.progress)
  pub left : AreLeft c.heap.segments (sweeper_in c.cycle.progress)

-- the sweeper by phases: it swept nothing while the cycle marks, then is at work, and has exactly the waiting segments left
abbrev pub Sweeps : Progress → State → Collector → Type 0
Sweeps idle s c = Unit {0}
Sweeps (marking k) s c = HasSweeper k c × ((sweeper_in c.cycle.progress).seen.swept ≡ (sweeper_in c.cycle.progress).left) ×
    ((sweeper_in c.cycle.progress).seen.had ≡ []) × ((sweeper_in c.cycle.progress).seen.freed ≡ [])
Sweeps (sweeping k closed) s c = AreLeft c.heap.segments (sweeper_in c.cycle.progress) ×
    IsAtWork k closed (seen c).words s.allocation c.heap.segments (seen c).cycle (sweeper_in c.cycle.progress)

-- a mutator between two calls: it has its number, the heap's layout and no replies, and the inbox has its ring's other end
pub record IsOwn (c : Collector) (k : ℕ) (m : Mutator) : Type 0 where
  pub number : m.number ≡ k
  pub layout : m.layout ≡ c.heap.segments.layout
  pub whole : IsWhole m
  pub no_replies : m.replies.items ≡ []
  pub line : IsLined c.inbox k m.sender

-- a well-formed collector, whatever its run: its parts are for the script's layout, with a name entry for each block, and the
-- words are there. Mutators have their numbers and no replies, and the inbox has each ring's other end. The positions count
-- the commands answered of each program. The list of mutators' ends is empty, with room for all. Workers have room
pub record IsWellFormed (script : Script) (c : Collector) : Type 0 where
  pub layout : c.heap.segments.layout ≡ layout_of (plan_of script)
  pub sound : IsSegments c.heap.segments
  pub lists : IsFor c.heap.segments.layout c.heap.promotion
  pub entries : HaveEntries c.heap.segments.layout c.heap.names
  pub has_words : IsSome c.heap.words
  pub count : length c.mutators.items ≡ length script.threads
  pub own : (k : ℕ) (m : Mutator) → slice_get c.mutators.items k ≡ Some m → IsOwn c k m
  pub inbox : length c.inbox ≡ length script.threads
  pub positions_are : length c.positions.items ≡ length script.threads
  pub positions : (k : ℕ) → k < length script.threads → slice_index c.positions.items k ≡ answered_count c.rows.rounds k
  pub no_ends : c.report.ends.items ≡ []
  pub room : length script.threads ≤ vec_capacity c.report.ends
  pub workers : length script.threads ≤ c.workers

-- a new collector: the beginning of a run
pub record IsFresh (script : Script) (c : Collector) : Type 0 where
  pub kept : IsWellFormed script c
  pub goes_on : c.answered ≡ None
  pub new : IsNew (plan_of script) (seen c)

-- a collector after the last stop of this run, which leads to its state. The array of names has the names of the blocks
pub record IsAfterStop (script : Script) (c : Collector) (run : Run) : Type 0 where
  pub kept : IsWellFormed script c
  pub at_stop : IsAtStop (plan_of script) run (seen c)
  pub sweeper : Sweeps (last_state run).progress (last_state run) c
  pub named : AreNamed (layout_of (plan_of script)) c.heap.names (last_state run).allocation
  pub few : AreFewAtStop script c

-- a stopped collector: one run of the script leads to its state, and ends with its last stop
abbrev pub HasStopped : Script → Collector → Type 0
HasStopped script c = (run : Run) × IsAfterStop script c run

-- a collector after a round: one run of the script and this round lead to its state
pub record HasWorked (script : Script) (c : Collector) : Type 0 where
  pub kept : IsWellFormed script c
  pub goes_on : c.answered ≡ None
  pub run : Run
  pub replies : List (List Reply)
  pub history : List Row
  pub worked : State
  pub after : IsAfterRound (plan_of script) run replies history worked (seen c)
  pub sweeper : Sweeps worked.progress worked c
  pub named : AreNamed (layout_of (plan_of script)) c.heap.names worked.allocation
  pub few : AreFewBeforeStop script c (last_state run).world worked.world

-- a round between two collectors: the old one is after the last stop of a run, the new one after a further round of the run
abbrev pub DidRound : Script → Collector → Collector → Type 0
DidRound script old new = (worked : HasWorked script new) × IsAfterStop script old worked.run

-- a stop may follow: the collector is new, or did a round
abbrev pub CanStop : Script → Collector → Type 0
CanStop script c = IsFresh script c ⊎ HasWorked script c

-- a collector after a stop with this answer
abbrev pub HasAnswered : Script → Collector → StopEnd → Type 0
HasAnswered script c answer.GoOn = HasStopped script c × (c.answered ≡ None)
HasAnswered script c answer.Done = HasStopped script c × (c.answered ≡ Some Done)
HasAnswered script c (answer.HeapFull free reserve) = HasStopped script c × (c.answered ≡ Some (HeapFull free reserve))

-- a stop follows a round: the run after the stop is the run before the round, with this round and this stop added. For a new
-- collector's first stop `answered` suffices: its run has no round yet
abbrev pub StopsAfter : Script → Collector → Collector → Type 0
StopsAfter script old new = (w : HasWorked script old) → (turn : Turn) × (turn.replies ≡ record { replies = w.replies }) ×
    (turn.worked ≡ w.worked) × (turn.history ≡ w.history) × IsAfterStop script new (with_turn w.run turn)

-- the third sentence of the headline, at every stop: each tracked name of the run's world except g has a block. So nothing that
-- a register, a slot of g, a queue, a field or a live weak pointer can still reach was freed
abbrev pub NothingReachableIsFreed : Script → Collector → Type 0
NothingReachableIsFreed script c = (run : Run) → IsAfterStop script c run → HasBlocks (last_state run)

-- the collector's run has ended with this end
abbrev pub HasEnded : Script → Collector → End → Type 0
HasEnded script c Done = HasAnswered script c answer.Done
HasEnded script c (HeapFull free reserve) = HasAnswered script c (answer.HeapFull free reserve)
