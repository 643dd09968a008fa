-- The events of a round: the steps of its mutators and its collector, in one order, as events of the marking machine.
use Rattle.std.specs.Prelude.{◌≡◌, ℕ, List, [], ◌∷◌, ◌==◌, Option, if◌then◌else◌}
use Rattle.nmgc_world_spec.specs.{declared.value.Value.Value, declared.command.Command.Command, declared.command.Reply.Reply, World.node_of, Reach.Row}
use Rattle.nmgc_snapshot_laws.specs.{declared.event.Entry.Entry, declared.event.Event.Event, State.State, Scan.read_at, Machine.IsPossible, Machine.after_command, Machine.after_scan}
use Rattle.nmgc_snapshot_laws.specs.declared.event.Event.TheVariants as event

-- an event of a round with its result: a command with its reply, or a scan of the first entry with the value that it read
pub data Happening : Type 0 where
  did : ℕ → Command → Reply → Happening
  scanned : Entry → Option Value → Happening

-- the marking machine's event for an event of a round
abbrev pub event_of : Happening → Event
event_of (did m c r) = event.Command m c r
event_of (scanned entry v) = event.Scan

-- the state after one event
abbrev pub after : State → Happening → State
after s (did m c r) = after_command s m c
after s (scanned entry v) = after_scan s s.queue

-- an event that reads the right value: a scan is of the first entry, and reads the value at the entry's position
abbrev pub Reads : State → Happening → Type 0
Reads s (did m c r) = Unit {0}
Reads s (scanned entry v) = ((rest : List Entry) × (s.queue ≡ entry ∷ rest)) × (read_at (node_of s.world entry.name) entry.position ≡ v)

-- an event that can happen, with its result
abbrev pub IsLegalIn : State → Happening → Type 0
IsLegalIn s h = IsPossible s (event_of h) × Reads s h

-- the state after all events of a list
abbrev pub replay : State → List Happening → State
replay s [] = s
replay s (h ∷ hs) = replay (after s h) hs

-- a legal list of events: each can happen at its position
abbrev pub IsLegal : State → List Happening → Type 0
IsLegal s [] = Unit {0}
IsLegal s (h ∷ hs) = IsLegalIn s h × IsLegal (after s h) hs

-- a mutator's commands with their replies, in the order of the events
abbrev pub done_by : ℕ → List Happening → List (Command × Reply)
done_by m [] = []
done_by m (did k c r ∷ hs) = if k == m then (c, r) ∷ done_by m hs else done_by m hs
done_by m (scanned entry v ∷ hs) = done_by m hs

-- the commands among events, as rows of a history
abbrev pub rows_in : List Happening → List Row
rows_in [] = []
rows_in (did m c r ∷ hs) = record { mutator = m; command = c; reply = r } ∷ rows_in hs
rows_in (scanned entry v ∷ hs) = rows_in hs

-- the scans among events, in order
abbrev pub scans_in : List Happening → List (Entry × Option Value)
scans_in [] = []
scans_in (did m c r ∷ hs) = scans_in hs
scans_in (scanned entry v ∷ hs) = (entry, v) ∷ scans_in hs
