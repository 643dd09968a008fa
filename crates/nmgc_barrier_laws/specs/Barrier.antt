-- A watched cycle with a marker beside it. The cycle sees only the runtime's commands and pushes. The marker, which isn't
-- seen, marks names that may be held, scans, and takes waiting names in any order.
use Rattle.std.specs.Prelude.{◌≡◌, ◌<◌, ◌↔◌, ◌⊎◌, ℕ, List, [], ◌∷◌, ◌++◌, length, slice_set, replicate, IsSome, Contains}
use Rattle.nmgc_world_spec.specs.{declared.value.Name.Name, declared.command.Command.Command, declared.command.Reply.Reply, World.World, World.node_of, Known.IsWorld, Reach.IsDead, Reach.Lists, Reach.closed}
use Rattle.nmgc_snapshot_laws.specs.declared.event.Event.TheVariants as event
use Rattle.nmgc_snapshot_laws.specs.{State.State, State.names_of, State.mark_name, State.opening, Machine.IsPossible, Machine.AreEmpty, Machine.after_scan, Closing.IsClosing, Facts.MayHold}
use Rattle.nmgc_barrier_laws.specs.{declared.debt.Debt.Debt, Lax.after_owing, Lax.IsShuffled, Cycle.Cycle, Cycle.watching, Cycle.IsWatched, Cycle.IsPushed, Cycle.IsTook, Cycle.MarksName}

-- the names of debts
abbrev pub names_in : List Debt → List Name
names_in [] = []
names_in (debt ∷ debts) = debt.name ∷ names_in debts

-- a name that is marked, or that a mutator pushed, so that it is on its way to be marked
abbrev pub IsOnItsWay : State → Name → Type 0
IsOnItsWay s name = Contains s.marked name ⊎ ((m : ℕ) × Contains (names_of s.pushed m) name)

-- the state after a push: the name floats, and exactly the names of these debts, which are still due, are owed
abbrev pub after_pushing : State → ℕ → Name → List Debt → State
after_pushing s m name debts = record s {
  opened = s.opened ++ name ∷ [];
  pushed = slice_set s.pushed m (names_of s.pushed m ++ name ∷ []);
  owed = slice_set (replicate (length s.owed) []) m (names_in debts);
}

-- a step of the marker that reorders waiting names or drops marked names, and loses no name that is on its way to be marked
pub record IsSorted (s next : State) : Type 0 where
  pub shuffled : IsShuffled s next
  pub owed : next.owed ≡ s.owed
  pub way : (name : Name) → IsSome (node_of s.snapshot name) → IsOnItsWay s name → IsOnItsWay next name

-- a cycle that began with this world, after any commands, pushes, and reports of names that the marker took
pub data Watches (w : World) : Cycle → Type 0 where
  begun : Watches w (watching w)
  given : (h next : Cycle) (line m : ℕ) (c : Command) (answer : Reply) → Watches w h → IsWatched h line m c answer next → Watches w next
  pushed : (h next : Cycle) (name : Name) → Watches w h → IsPushed h name next → Watches w next
  taken : (h next : Cycle) (name : Name) → Watches w h → IsTook h name next → Watches w next

-- a cycle that began with this world, and the state of a marker beside it. After a command the marker owes the debts. After a
-- push the name floats, in the list of any mutator, and its debts go. Unseen, the marker marks names that may be held, scans,
-- and takes waiting names in any order. A report of a take leaves the marker's state as it is
pub data Beside (w : World) : Cycle → State → Type 0 where
  start : Beside w (watching w) (opening w)
  command : (h next : Cycle) (s : State) (line m : ℕ) (c : Command) (answer : Reply) → Beside w h s → IsWatched h line m c answer next →
      Beside w next (after_owing s m c (names_in next.debts))
  push : (h next : Cycle) (s : State) (m : ℕ) (name : Name) → Beside w h s → IsPushed h name next → m < length s.pushed →
      Beside w next (after_pushing s m name next.debts)
  take : (h next : Cycle) (s : State) (name : Name) → Beside w h s → IsTook h name next → Beside w next s
  mark : (h : Cycle) (s : State) (name : Name) → Beside w h s → MayHold s name → Beside w h (mark_name s name)
  scan : (h : Cycle) (s : State) → Beside w h s → Beside w h (after_scan s s.queue)
  sort : (h : Cycle) (s next : State) → Beside w h s → IsSorted s next → Beside w h next

-- an exact barrier: without debts nothing is owed; a possible closing marks exactly the names kept by commands and pushes
pub record IsBarrierExact (h : Cycle) (s : State) : Type 0 where
  pub owes : h.debts ≡ [] → (m : ℕ) → names_of s.owed m ≡ []
  pub marks : (next : State) → IsPossible s event.Close → IsClosing s next → (name : Name) → Contains next.marked name ↔ MarksName h name

-- the theorem of the watched barrier: every watched cycle, with any marker beside it, is exact (`IsBarrierExact`)
abbrev pub BarrierTheorem : Type 0
BarrierTheorem = (w : World) → IsWorld w → (h : Cycle) (s : State) → Beside w h s → IsBarrierExact h s

-- a marker that has taken all pushed names, and read all that it marked
pub record HasFinished (s : State) : Type 0 where
  pub queue : s.queue ≡ []
  pub pushed : AreEmpty s.pushed

-- a state that can end: its end marks exactly the names kept by commands and pushes, and kills exactly the dead weak pointers
pub record EndsExactly (h : Cycle) (s : State) : Type 0 where
  pub possible : IsPossible s event.Close
  pub marks : (next : State) → IsClosing s next → (name : Name) → Contains next.marked name ↔ MarksName h name
  pub dies : (next : State) (closing : IsClosing s next) → Lists (IsDead h.snapshot (h.opened ++ h.remembered) h.finalised) closing.dead
  pub world : (next : State) (closing : IsClosing s next) → next.world ≡ closed h.world closing.dead

-- the joint theorem: beside any commands and pushes that leave no debts, each finished marker ends exactly (`EndsExactly`)
abbrev pub JointTheorem : Type 0
JointTheorem = (w : World) → IsWorld w → (h : Cycle) → Watches w h → h.debts ≡ [] → (s : State) → Beside w h s → HasFinished s → EndsExactly h s

-- the theorem that a marker is possible beside any list of commands and pushes
abbrev pub SomeMarkerIsBeside : Type 0
SomeMarkerIsBeside = (w : World) → IsWorld w → (h : Cycle) → Watches w h → (s : State) × Beside w h s

-- the theorem that a finished marker is possible beside any list of commands and pushes, so the joint theorem isn't empty
abbrev pub SomeMarkerFinishes : Type 0
SomeMarkerFinishes = (w : World) → IsWorld w → (h : Cycle) → Watches w h → (s : State) × Beside w h s × HasFinished s
