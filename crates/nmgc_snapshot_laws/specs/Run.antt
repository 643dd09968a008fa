-- Runs of the machine, and the snapshot theorem about their marks.
use Rattle.std.specs.Prelude.{◌≡◌, ◌↔◌, List, [], ◌∷◌, ◌++◌, Contains, Bool, true, false, if◌then◌else◌}
use Rattle.nmgc_world_spec.specs.{declared.value.Name.Name, World.World, Known.IsWorld, Reach.Row, Reach.replayed, Reach.IsLegal, Reach.opened, Reach.finalised, Reach.IsLive, Reach.IsDead, Reach.IsKept, Reach.Lists, Reach.closed}
use Rattle.nmgc_snapshot_laws.specs.{declared.event.Event.Event, State.State, State.Order, State.oldest_first, State.opening, State.opening_in, Machine.IsPossible, Machine.Passes, Facts.Facts, Closing.IsMarkedFirst, Closing.IsClosing}
use Rattle.nmgc_snapshot_laws.specs.declared.event.Event.TheVariants as event

-- the row of an event that is a command
abbrev pub row_of : Event → List Row
row_of (event.Command m c answer) = (record { mutator = m; command = c; reply = answer }) ∷ []
row_of (event.Push m) = []
row_of event.Scan = []
row_of (event.Take m) = []
row_of event.Close = []

-- the rows of an event, if it happened
abbrev pub rows_if : Bool → Event → List Row
rows_if done e = if done then row_of e else []

-- a run from one state to another by events in order, with the rows of the commands that happened
abbrev pub Runs : State → List Event → List Row → State → Type 0
Runs s [] rows last = (rows ≡ []) × (last ≡ s)
Runs s (e ∷ es) rows last = (done : Bool) × (next : State) × (rest : List Row) × Passes s e done next × (rows ≡ rows_if done e ++ rest) × Runs next es rest last

-- the state before the closing: the world is the replay of these rows, and all marked names are live in the snapshot
pub record IsMarking (w : World) (rows : List Row) (s : State) : Type 0 where
  pub legal : IsLegal w rows
  pub snapshot : s.snapshot ≡ w
  pub world : s.world ≡ replayed w rows
  pub opened : s.opened ≡ opened w rows
  pub finalised : s.finalised ≡ finalised w rows
  pub live : (name : Name) → Contains s.marked name → IsLive w s.opened name

-- the state after an exact closing. The closing could happen in the state that the events before it reached. Exactly the live
-- names are marked first, exactly the dead weak pointers die, and exactly the kept names are marked in the end.
pub record IsExact (order : Order) (w : World) (events : List Event) (rows : List Row) (s : State) : Type 0 where
  pub earlier : List Event
  pub later : List Event
  pub events_are : events ≡ earlier ++ event.Close ∷ later
  pub before : State
  pub runs : Runs (opening_in order w) earlier rows before
  pub possible : IsPossible before event.Close
  pub marking : IsMarking w rows before
  pub closing : IsClosing before s
  pub live : (name : Name) → IsMarkedFirst before name ↔ IsLive w before.opened name
  pub dead : Lists (IsDead w before.opened before.finalised) closing.dead
  pub kept : (name : Name) → Contains s.marked name ↔ IsKept w before.opened before.finalised name
  pub world : s.world ≡ closed (replayed w rows) closing.dead

-- the snapshot theorem, for the state after these events and rows. Before the closing all marked names are live in the
-- snapshot. At the closing, exactly the live names are marked once the weak pointers with marked keys have kept their parts.
-- Then exactly the kept names are marked, and exactly the dead weak pointers die.
pub record IsSnapshotMarking (order : Order) (w : World) (events : List Event) (rows : List Row) (s : State) : Type 0 where
  pub before : s.is_closed ≡ false → IsMarking w rows s
  pub after : s.is_closed ≡ true → IsExact order w events rows s

-- the snapshot theorem, for every run from a world (`IsWorld`), in each order, with events from any source
abbrev pub SnapshotTheorem : Type 0
SnapshotTheorem = (order : Order) (w : World) → IsWorld w → (events : List Event) (rows : List Row) (s : State) →
    Runs (opening_in order w) events rows s → IsSnapshotMarking order w events rows s

-- the claim that each state of a run from a world has the facts until the closing
abbrev pub FactsAreKept : Type 0
FactsAreKept = (order : Order) (w : World) → IsWorld w → (events : List Event) (rows : List Row) (s : State) → Runs (opening_in order w) events rows s →
    s.is_closed ≡ false → Facts s

-- the claim that the facts hold at the opening of every world (`IsWorld`)
abbrev pub OpeningHasFacts : Type 0
OpeningHasFacts = (order : Order) (w : World) → IsWorld w → Facts (opening_in order w)

-- the claim that every event that happens and doesn't close keeps the facts, and leaves a world (`IsWorld`)
abbrev pub EventKeepsFacts : Type 0
EventKeepsFacts = (s next : State) (e : Event) → Facts s → IsWorld s.world → Passes s e true next → next.is_closed ≡ false → Facts next × IsWorld next.world

-- an exact closing: exactly the live names are marked first, the dead weak pointers die, and the kept names end up marked
pub record IsExactClosing (s next : State) (closing : IsClosing s next) : Type 0 where
  pub live : (name : Name) → IsMarkedFirst s name ↔ IsLive s.snapshot s.opened name
  pub dead : Lists (IsDead s.snapshot s.opened s.finalised) closing.dead
  pub kept : (name : Name) → Contains next.marked name ↔ IsKept s.snapshot s.opened s.finalised name

-- the claim that every closing from a state with the facts is exact
abbrev pub ClosingIsExact : Type 0
ClosingIsExact = (s next : State) → Facts s → IsPossible s event.Close → (closing : IsClosing s next) → IsExactClosing s next closing

-- a run from a world, oldest first: the machine reaches this state by the events in order, and the snapshot theorem holds there
pub record IsRun (w : World) (events : List Event) (s : State) : Type 0 where
  pub rows : List Row
  pub runs : Runs (opening w) events rows s
  pub theorem : IsSnapshotMarking oldest_first w events rows s
  pub closed : IsWorld s.world
