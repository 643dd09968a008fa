-- The invariant of a run's states, at its stops and between a round and its stop.
--
-- A cycle that is marking began with a snapshot, and its rows lead from the snapshot to the world. A cycle that is sweeping
-- was closed, and commands came since. Waiting segments hold only names of the snapshot. Tracked names except g have blocks.
use Rattle.std.specs.Prelude.{ℕ, ◌≡◌, ◌≢◌, ◌+◌, ◌-◌, ◌<◌, ◌≤◌, ◌^◌, List, length, IsSome, All, Contains}
use Rattle.nmgc_world_spec.specs.{Known.HasRegisters, declared.value.Name.Name, declared.command.Command.Command, declared.command.Reply.Reply, World.World, World.serial_of, World.node_of, World.shared_name, Known.IsWorld, Reach.Row, Reach.replayed, Reach.Lists, Reach.closed}
use Rattle.nmgc_limits.specs.declared.mutators.TheConstants.{MAKERS}
use Rattle.nmgc_world_laws.specs.Reachable.{CanReplay, IsSound}
use Rattle.nmgc_segment.specs.declared.state.State.TheVariants as stands
use Rattle.nmgc_object.specs.declared.layout.Layout.{Layout}
use Rattle.nmgc_alloc.specs.{AllocState.AllocState, Invariant.IsAllocState, Invariant.HasBlock, AllocState.LiesIn, Invariant.LieOnce, Invariant.LiesNowhere, AllocState.IsIn, AllocState.cells}
use Rattle.nmgc_heap_spec.specs.{Changes.IsEarlier, Tracked.IsTracked}
use Rattle.nmgc_stop_spec.specs.Cycle.{IsDeadIn, Cycle}
use Rattle.nmgc_stop_spec.specs.Kept.{interval_of}
use Rattle.nmgc_run_spec.specs.{Heap.snapshots, Run.IsRound, Run.Run, Run.IsRun, Run.last_state, Run.Plan, Run.State, Run.Progress, Run.idle, Run.marking, Run.sweeping, Run.layout_of, AfterRound.program_of}

-- a runnable plan: it has one to `MAKERS` programs. Their registers exist, and they are short enough for serials of 32 bits
pub record IsRunnable (plan : Plan) : Type 0 where
  pub some : 1 ≤ length plan.threads
  pub few : length plan.threads ≤ MAKERS
  pub registers : (m : ℕ) → All HasRegisters (program_of plan.threads m)
  pub short : (m : ℕ) → length (program_of plan.threads m) < 2 ^ 32 - 1

-- the rest of the program of mutator `m`
abbrev pub left_of : State → ℕ → List Command
left_of s m = program_of s.left m

-- a name of the snapshot
abbrev pub IsOfSnapshot : Cycle → Name → Type 0
IsOfSnapshot c name = IsSome (node_of c.snapshot name)

-- each name in a segment that waits to be swept is a name of the snapshot
abbrev pub WaitKnown : Cycle → AllocState → Type 0
WaitKnown c allocation = (number block : ℕ) (name : Name) → IsIn stands.Sweeping (cells allocation number) → LiesIn allocation number block name →
    IsOfSnapshot c name

-- the world after a cycle was closed: the closing's world, changed by some commands
pub record IsAfterClosing (c : Cycle) (w : World) : Type 0 where
  pub sound : IsSound (interval_of c)
  pub dead : List Name
  pub lists : Lists (IsDeadIn c) dead
  pub since : List Row
  pub can : CanReplay (closed (replayed c.snapshot c.rows) dead) since
  pub world_is : w ≡ replayed (closed (replayed c.snapshot c.rows) dead) since

-- the cycle in progress fits the world and the blocks
abbrev pub IsInCycle : Progress → World → AllocState → Type 0
IsInCycle idle w allocation = Unit {0}
IsInCycle (marking c) w allocation = IsSound (interval_of c) × (w ≡ replayed c.snapshot c.rows) × WaitKnown c allocation
IsInCycle (sweeping c closed) w allocation = IsAfterClosing c w × WaitKnown c allocation

-- sound blocks: an allocation state of the layout, with each name in at most one block, and g in none
pub record AreSoundBlocks (layout : Layout) (allocation : AllocState) : Type 0 where
  pub state : IsAllocState layout allocation
  pub once : LieOnce allocation
  pub shared : LiesNowhere allocation shared_name

-- each name in a block is a name of the world
abbrev pub LieKnown : World → AllocState → Type 0
LieKnown w allocation = (number block : ℕ) (name : Name) → LiesIn allocation number block name → IsSome (node_of w name)

-- the rest of the programs can be done: the registers exist, and serials suffice
pub record IsAble (plan : Plan) (s : State) : Type 0 where
  pub programs : length s.left ≡ length plan.threads
  pub mutators : length s.world.mutators ≡ length plan.threads
  pub registers : (m : ℕ) → All HasRegisters (left_of s m)
  pub serials : (m : ℕ) → serial_of s.world m + length (left_of s m) < 2 ^ 32 - 1

-- each tracked name except g has a block
abbrev pub HasBlocks : State → Type 0
HasBlocks s = (name : Name) → IsTracked s.world (snapshots s.progress) name → name ≢ shared_name → HasBlock s.allocation name

-- the snapshot of a cycle that is marking is an earlier world, so the collector may still use it
abbrev pub AreEarlier : State → Type 0
AreEarlier s = (e : World) → Contains (snapshots s.progress) e → IsEarlier e s.world

-- a sound state, at a stop: a world with as many mutators as programs, and the rest of the programs can be done. The blocks
-- are an allocation state; no name lies in two blocks, and only names of the world lie in blocks. The cycle's rows and its
-- closing lead from its snapshot to the world. Each tracked name except g has its block
pub record IsSoundState (plan : Plan) (s : State) : Type 0 where
  pub world : IsWorld s.world
  pub able : IsAble plan s
  pub sound_blocks : AreSoundBlocks (layout_of plan) s.allocation
  pub known : LieKnown s.world s.allocation
  pub cycle : IsInCycle s.progress s.world s.allocation
  pub earlier : AreEarlier s
  pub blocks : HasBlocks s

-- a sound round from one state to another: its rows can be replayed, and only old names lie in blocks. Each tracked name that
-- isn't new, except g, still has its block. All else is as in a sound state at a stop
pub record IsSoundRound (plan : Plan) (s : State) (rows : List Row) (t : State) : Type 0 where
  pub can : CanReplay s.world rows
  pub world : IsWorld t.world
  pub able : IsAble plan t
  pub sound_blocks : AreSoundBlocks (layout_of plan) t.allocation
  pub known : LieKnown s.world t.allocation
  pub cycle : IsInCycle t.progress t.world t.allocation
  pub earlier : AreEarlier t
  pub names : (e : World) → Contains (snapshots t.progress) e → (name : Name) → IsSome (node_of e name) → IsSome (node_of s.world name)
  pub blocks : (name : Name) → IsTracked t.world (snapshots t.progress) name → name ≢ shared_name → IsSome (node_of s.world name) → HasBlock t.allocation name

-- the law that every state of a run is sound
abbrev pub StatesAreSound : Type 0
StatesAreSound = (plan : Plan) (run : Run) → IsRunnable plan → IsRun plan run → IsSoundState plan (last_state run)

-- the law that every round from a sound state is sound
abbrev pub RoundsAreSound : Type 0
RoundsAreSound = (plan : Plan) (s t : State) (replies : List (List Reply)) (rows : List Row) → IsSoundState plan s →
    IsRound plan.config s replies rows t → IsSoundRound plan s rows t

-- the law that at every stop of a run each tracked name except g has a block
abbrev pub TrackedHaveBlocks : Type 0
TrackedHaveBlocks = (plan : Plan) (run : Run) → IsRunnable plan → IsRun plan run → HasBlocks (last_state run)
