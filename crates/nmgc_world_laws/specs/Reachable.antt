-- Why nothing reachable is freed.
--
-- A cycle judges by its snapshot, and frees while the mutators go on. So two things have to hold. At the closing, all of the
-- snapshot's names in the world's wide reach are kept. And no later command brings back a name that was lost: a mutator gets
-- a name only by a read of a field that has it, or by making it.
--
-- P below is the set of names that may be held. A step keeps all held names in P, so the wide reach is in P. For a cycle, P
-- has all names except the lost names of its snapshot.
use Rattle.std.specs.Prelude.{◌≡◌, ◌⊎◌, ◌≤◌, ℕ, List, [], ◌∷◌, Bool, IsSome, IsTrue, Contains}
use Rattle.nmgc_limits.specs.declared.mutators.TheConstants.{MAKERS}
use Rattle.nmgc_world_spec.specs.{declared.value.Name.Name, declared.node.Parts.Parts, declared.command.Command.Command, World.World, World.state_of, World.node_of, World.new_world, World.next_name, World.step, Known.IsWorld, Known.CanApply, Reach.Row, Reach.replayed, Reach.opened, Reach.IsRoot, Reach.RefersTo, Reach.IsAlive, Reach.IsLive, Reach.Lists, Reach.closed, Reach.IsOfWeak, Reach.IsWide, Interval.Interval, Interval.IsKeptAfter, Interval.IsDeadAfter}
use Rattle.nmgc_world_laws.specs.Holds.{CoversReach}

-- a set that has all names that the world holds: the roots, the names in strong fields of the set's names, and each weak
-- pointer that is alive, with its parts. The smallest such set is the wide reach.
pub record HoldsOnly (P : Name → Type 0) (w : World) : Type 0 where
  pub roots : (name : Name) → IsRoot w name → P name
  pub fields : (name target : Name) → P name → RefersTo w name target → P target
  pub weaks : (weak name : Name) (parts : Parts) → IsAlive w weak parts → IsOfWeak weak parts name → P name

-- the set has each name that isn't in the world yet
abbrev pub CountsNew : (Name → Type 0) → World → Type 0
CountsNew P w = (name : Name) → (IsSome (node_of w name) → ⊥) → P name

-- a world can take a list of commands: each command can be applied after the commands before it
abbrev pub CanReplay : World → List Row → Type 0
CanReplay w [] = Unit {0}
CanReplay w (row ∷ rows) = CanApply w row.mutator row.command × CanReplay (step w row.mutator row.command).0 rows

-- if a set has all names that a world holds and the name that a command makes, it has all names held after the command
abbrev pub StepHoldsOnly : (Name → Type 0) → Type 0
StepHoldsOnly P = (w : World) (m : ℕ) (c : Command) → IsWorld w → CanApply w m c → P (next_name (state_of w m) m) → HoldsOnly P w → HoldsOnly P (step w m c).0

-- if a set has all names that a world holds, it has all names held after a closing
abbrev pub ClosingHoldsOnly : (Name → Type 0) → Type 0
ClosingHoldsOnly P = (w : World) (weaks : List Name) → IsWorld w → HoldsOnly P w → HoldsOnly P (closed w weaks)

-- the names for which a test returns true
abbrev pub Passes : (Name → Bool) → Name → Type 0
Passes test name = IsTrue (test name)

-- a command turns a world into a world: every reference in the new world names a node of it
abbrev pub StepKeepsWorld : Type 0
StepKeepsWorld = (w : World) (m : ℕ) (c : Command) → IsWorld w → CanApply w m c → IsWorld (step w m c).0

-- a closing with any weak pointers turns a world into a world
abbrev pub ClosingKeepsWorld : Type 0
ClosingKeepsWorld = (w : World) (weaks : List Name) → IsWorld w → IsWorld (closed w weaks)

-- any list of commands turns a world into a world
abbrev pub RowsKeepWorld : Type 0
RowsKeepWorld = (w : World) (rows : List Row) → IsWorld w → CanReplay w rows → IsWorld (replayed w rows)

-- the state before any command is a world
abbrev pub NewIsWorld : Type 0
NewIsWorld = (mutators : ℕ) → 1 ≤ mutators → mutators ≤ MAKERS → IsWorld (new_world mutators)

-- each name in the wide reach after a command was in it before, or is the name that the command makes
abbrev pub StepAddsOne : Type 0
StepAddsOne = (w : World) (m : ℕ) (c : Command) → IsWorld w → CanApply w m c → (name : Name) → IsWide (step w m c).0 name → IsWide w name ⊎
    (name ≡ next_name (state_of w m) m)

-- a closing adds nothing to the wide reach
abbrev pub ClosingAddsNone : Type 0
ClosingAddsNone = (w : World) (weaks : List Name) → IsWorld w → (name : Name) → IsWide (closed w weaks) name → IsWide w name

-- each name of a world that is in the wide reach after some commands was in the wide reach before them
abbrev pub StaysUnreached : Type 0
StaysUnreached = (w : World) (rows : List Row) → IsWorld w → CanReplay w rows → (name : Name) → IsSome (node_of w name) →
    IsWide (replayed w rows) name → IsWide w name

-- live or new: the name is live in the snapshot with these opened names, or isn't one of the snapshot's names
abbrev pub IsLiveOrNew : World → List Name → Name → Type 0
IsLiveOrNew w extra name = IsSome (node_of w name) → IsLive w extra name

-- after commands, mutators hold only new names, and names live at the beginning together with the names that the commands
-- opened. A name of the beginning that isn't live keeps its node.
abbrev pub RowsHoldLive : Type 0
RowsHoldLive = (w : World) (rows : List Row) → IsWorld w → CanReplay w rows → CoversReach (IsLiveOrNew w (opened w rows)) (replayed w rows) ×
    ((name : Name) → IsSome (node_of w name) → (IsLive w (opened w rows) name → ⊥) → node_of (replayed w rows) name ≡ node_of w name)

-- an interval whose snapshot is a world and can take the interval's commands
pub record IsSound (i : Interval) : Type 0 where
  pub world : IsWorld i.snapshot
  pub rows : CanReplay i.snapshot i.rows

-- the world at the end of an interval, closed with these weak pointers
abbrev pub closed_after : Interval → List Name → World
closed_after i dead = closed (replayed i.snapshot i.rows) dead

-- the name isn't lost: a lost name is one of the snapshot's names that can't be kept after the interval. Without a list of
-- the kept names nothing decides whether a name is kept, so the law says no more.
abbrev pub IsNotLost : Interval → Name → Type 0
IsNotLost i name = IsSome (node_of i.snapshot name) → (IsKeptAfter i name → ⊥) → ⊥

-- a world after the closing: it has all of the snapshot's names, and no name that it holds is lost
pub record IsClosedWell (i : Interval) (w : World) : Type 0 where
  pub world : IsWorld w
  pub names : (name : Name) → IsSome (node_of i.snapshot name) → IsSome (node_of w name)
  pub holds : HoldsOnly (IsNotLost i) w

-- a closing with exactly the dead weak pointers leaves a world that has all the snapshot's names and holds no lost name
abbrev pub ClosesWell : Type 0
ClosesWell = (i : Interval) (dead : List Name) → IsSound i → Lists (IsDeadAfter i) dead → IsClosedWell i (closed_after i dead)

-- after the closing and any commands, none of the snapshot's names in the wide reach is lost
abbrev pub NothingReachableIsFreed : Type 0
NothingReachableIsFreed = (i : Interval) (dead : List Name) (since : List Row) → IsSound i → Lists (IsDeadAfter i) dead →
    CanReplay (closed_after i dead) since → (name : Name) → IsWide (replayed (closed_after i dead) since) name → IsNotLost i name

-- a stretch of a run: commands, and then a closing, which may be of no weak pointer; a run is a list of stretches
pub record Stretch : Type 0 where
  pub rows : List Row
  pub closing : List Name

-- the world after stretches, in their order
abbrev pub continued : World → List Stretch → World
continued w [] = w
continued w (stretch ∷ stretches) = continued (closed (replayed w stretch.rows) stretch.closing) stretches

-- the world can take all commands of the stretches
abbrev pub CanContinue : World → List Stretch → Type 0
CanContinue w [] = Unit {0}
CanContinue w (stretch ∷ stretches) = CanReplay w stretch.rows × CanContinue (closed (replayed w stretch.rows) stretch.closing) stretches

-- a name that isn't in the wide reach never comes back, whatever commands and closings follow
abbrev pub NeverComesBack : Type 0
NeverComesBack = (w : World) (later : List Stretch) → IsWorld w → CanContinue w later → (name : Name) → IsSome (node_of w name) →
    IsWide (continued w later) name → IsWide w name

-- after the closing, and any further commands and closings, none of the snapshot's names in the wide reach is lost
abbrev pub NothingReachableIsEverFreed : Type 0
NothingReachableIsEverFreed = (i : Interval) (dead : List Name) (later : List Stretch) → IsSound i → Lists (IsDeadAfter i) dead →
    CanContinue (closed_after i dead) later → (name : Name) → IsWide (continued (closed_after i dead) later) name → IsNotLost i name

-- nothing reachable is freed: a list of exactly the kept names has each of the snapshot's names that is in the wide reach
-- after the closing and any commands since
abbrev pub ReachableIsKept : Type 0
ReachableIsKept = (i : Interval) (dead kept : List Name) (since : List Row) → IsSound i → Lists (IsDeadAfter i) dead → Lists (IsKeptAfter i) kept →
    CanReplay (closed_after i dead) since → (name : Name) → IsSome (node_of i.snapshot name) → IsWide (replayed (closed_after i dead) since) name →
    Contains kept name

-- nothing reachable is ever freed. A list of exactly the kept names has each of the snapshot's names that is in the wide
-- reach after the closing and any further commands and closings
abbrev pub ReachableIsEverKept : Type 0
ReachableIsEverKept = (i : Interval) (dead kept : List Name) (later : List Stretch) → IsSound i → Lists (IsDeadAfter i) dead →
    Lists (IsKeptAfter i) kept → CanContinue (closed_after i dead) later → (name : Name) → IsSome (node_of i.snapshot name) →
    IsWide (continued (closed_after i dead) later) name → Contains kept name
