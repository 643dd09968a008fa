-- The lax rule gives marker and barrier more freedom than the marking machine has. A command owes at least the names that are
-- due and at most names that may be held. Any mutator may hand over waiting names, and others that may be held, in any order.
use Rattle.std.specs.Prelude.{◌≡◌, ◌≢◌, ◌<◌, ◌↔◌, ◌⊎◌, ℕ, List, [], ◌∷◌, ◌++◌, length, slice_set, IsSome, All, Contains, false, true}
use Rattle.nmgc_world_spec.specs.{declared.value.Name.Name, declared.command.Command.Command, declared.command.Reply.Reply, World.World, World.node_of, World.step, Known.IsWorld, Known.CanApply, Reach.Row, Reach.IsLegal, Reach.replayed, Reach.opened, Reach.finalised, Reach.IsLive}
use Rattle.nmgc_snapshot_laws.specs.{declared.event.Entry.Entry, declared.event.Event.Event, State.State, State.names_of, State.mark_name, State.opening, Machine.IsPossible, Machine.Passes, Machine.after_command, Machine.after_scan, Closing.IsClosing, Facts.MayHold, Facts.IsSafe, Facts.Facts, Run.IsExactClosing}
use Rattle.nmgc_snapshot_laws.specs.declared.event.Event.TheVariants as event
use Rattle.nmgc_barrier_laws.specs.Due.{IsDue}

-- the state after a command that owes exactly these names
abbrev pub after_owing : State → ℕ → Command → List Name → State
after_owing s m c names = record (after_command s m c) { owed = slice_set s.owed m (names_of s.owed m ++ names) }

-- a command of the lax rule: it owes at least the names that are due and not safe, and at most names that may be held
pub record IsGiven (s : State) (m : ℕ) (c : Command) (next : State) : Type 0 where
  pub can : CanApply s.world m c
  pub names : List Name
  pub next_is : next ≡ after_owing s m c names
  pub held : All (MayHold next) names
  pub due : (target : Name) → IsDue s.snapshot s.world m c target → IsSafe next target

-- another order of waiting names, also across mutators. No entry of the queue is lost or new. All names that are owed or
-- pushed afterwards may be held. A name may leave a list if it is safe elsewhere: all safe names stay safe
pub record IsShuffled (s next : State) : Type 0 where
  pub rest : next ≡ record s { queue = next.queue; owed = next.owed; pushed = next.pushed }
  pub queue : (entry : Entry) → Contains next.queue entry ↔ Contains s.queue entry
  pub owed_lists : length next.owed ≡ length s.owed
  pub pushed_lists : length next.pushed ≡ length s.pushed
  pub owed : (m : ℕ) → All (MayHold s) (names_of next.owed m)
  pub pushed : (m : ℕ) → All (MayHold s) (names_of next.pushed m)
  pub safe : (name : Name) → IsSome (node_of s.snapshot name) → IsSafe s name → IsSafe next name

-- a push of any name, held or not: the name counts as opened from then on, so it floats with all that is reachable from it
pub record IsFloated (s : State) (name : Name) (next : State) : Type 0 where
  pub m : ℕ
  pub place : m < length s.pushed
  pub next_is : next ≡ record s { opened = s.opened ++ name ∷ []; pushed = slice_set s.pushed m (names_of s.pushed m ++ name ∷ []) }

-- a lax step: a command, another order of waiting names, a push, the mark of a name that may be held, or a scan
pub data IsLax (s next : State) : Type 0 where
  given : (m : ℕ) (c : Command) → IsGiven s m c next → IsLax s next
  shuffled : IsShuffled s next → IsLax s next
  floated : (name : Name) → IsFloated s name next → IsLax s next
  marked : (name : Name) → MayHold s name → next ≡ mark_name s name → IsLax s next
  scanned : next ≡ after_scan s s.queue → IsLax s next

-- any number of lax steps, one after the other
pub data LaxSteps (s : State) : State → Type 0 where
  nothing : LaxSteps s s
  then : (between next : State) → LaxSteps s between → IsLax between next → LaxSteps s next

-- the theorem that the marking machine is lax: each of its events that happens, except the end, is a list of lax steps
abbrev pub CoreIsLax : Type 0
CoreIsLax = (s next : State) (e : Event) → Facts s → IsWorld s.world → Passes s e true next → e ≢ event.Close → LaxSteps s next

-- the theorem that a lax step keeps the facts, and the world closed
abbrev pub LaxKeepsFacts : Type 0
LaxKeepsFacts = (s next : State) → Facts s → IsWorld s.world → IsLax s next → Facts next × IsWorld next.world

-- a lax step, with the row of its command and the name that it floats: each list is empty if the step has none
pub data LaxRow (s next : State) (rows : List Row) (extra : List Name) : Type 0 where
  command : (m : ℕ) (c : Command) (answer : Reply) → IsGiven s m c next → (step s.world m c).1 ≡ answer →
      rows ≡ (record { mutator = m; command = c; reply = answer }) ∷ [] → extra ≡ [] → LaxRow s next rows extra
  quiet : IsShuffled s next → rows ≡ [] → extra ≡ [] → LaxRow s next rows extra
  float : (name : Name) → IsFloated s name next → rows ≡ [] → extra ≡ name ∷ [] → LaxRow s next rows extra
  mark : (name : Name) → MayHold s name → next ≡ mark_name s name → rows ≡ [] → extra ≡ [] → LaxRow s next rows extra
  scan : next ≡ after_scan s s.queue → rows ≡ [] → extra ≡ [] → LaxRow s next rows extra

-- a lax run: lax steps, one after the other, with the rows of their commands and the names that floated
pub data LaxRuns (s : State) : List Row → List Name → State → Type 0 where
  start : LaxRuns s [] [] s
  more : (rows row : List Row) (extra one : List Name) (before next : State) → LaxRuns s rows extra before → LaxRow before next row one →
      LaxRuns s (rows ++ row) (extra ++ one) next

-- the snapshot theorem at the end of a lax run. The world is the replay of the run's commands. The names that count as opened
-- are those that the commands opened and those that floated. Until the end all marked names are live, given these names. Any
-- closing that can happen then is exact, as for the marking machine
pub record IsLaxMarking (w : World) (rows : List Row) (extra : List Name) (s : State) : Type 0 where
  pub legal : IsLegal w rows
  pub snapshot : s.snapshot ≡ w
  pub world : s.world ≡ replayed w rows
  pub opened : (name : Name) → Contains s.opened name ↔ (Contains (opened w rows) name ⊎ Contains extra name)
  pub finalised : s.finalised ≡ finalised w rows
  pub live : (name : Name) → Contains s.marked name → IsLive w s.opened name
  pub exact : (next : State) → IsPossible s event.Close → (closing : IsClosing s next) → IsExactClosing s next closing

-- the theorem of lax runs: every lax run from an opening has the snapshot theorem (`IsLaxMarking`)
abbrev pub LaxTheorem : Type 0
LaxTheorem = (w : World) → IsWorld w → (rows : List Row) (extra : List Name) (s : State) → LaxRuns (opening w) rows extra s → IsLaxMarking w rows extra s
