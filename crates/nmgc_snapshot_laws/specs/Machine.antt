-- The marking machine: the condition and the effect of each event.
use Rattle.std.specs.Prelude.{◌≡◌, ◌≢◌, ℕ, List, [], ◌∷◌, ◌++◌, slice_set, is_some, Bool, true, false, not, ◌&&◌, if◌then◌else◌, All}
use Rattle.nmgc_world_spec.specs.{declared.value.Name.Name, declared.command.Command.Command, World.World, World.node_of, World.is_same_name, World.step, World.shared_name, Known.CanApply, Reach.opened_by, Reach.finalised_by, Reach.owed_by}
use Rattle.nmgc_snapshot_laws.specs.{declared.event.Entry.Entry, declared.event.Event.Event, State.State, State.names_of, State.mark_name, State.mark_read, Scan.read_at, Scan.moved_on, Closing.IsClosing}
use Rattle.nmgc_snapshot_laws.specs.declared.event.Event.TheVariants as event

-- the mutators' lists are all empty
abbrev pub AreEmpty : List (List Name) → Type 0
AreEmpty lists = All (λ names. names ≡ []) lists

-- an event that can happen; none can happen after the closing. A command: the world can take it and gives this answer. A
-- push, a scan or a take: there is something to push, scan or take. The closing: nothing is queued, owed or pushed.
abbrev pub IsPossible : State → Event → Type 0
IsPossible s (event.Command m c answer) = (s.is_closed ≡ false) × CanApply s.world m c × ((step s.world m c).1 ≡ answer)
IsPossible s (event.Push m) = (s.is_closed ≡ false) × (names_of s.owed m ≢ [])
IsPossible s event.Scan = (s.is_closed ≡ false) × (s.queue ≢ [])
IsPossible s (event.Take m) = (s.is_closed ≡ false) × (names_of s.pushed m ≢ [])
IsPossible s event.Close = (s.is_closed ≡ false) × (s.queue ≡ []) × AreEmpty s.owed × AreEmpty s.pushed

-- the state after a command: the world takes its step, and the names that the command owes, opens and finalises are added
abbrev pub after_command : State → ℕ → Command → State
after_command s m c = record s {
  world = (step s.world m c).0;
  owed = slice_set s.owed m (names_of s.owed m ++ owed_by s.world m c);
  opened = s.opened ++ opened_by s.world m c;
  finalised = s.finalised ++ finalised_by s.world m c;
}

-- whether a push hands over the name: the name is in the snapshot, and it isn't g's
abbrev pub is_pushed_in : World → Name → Bool
is_pushed_in snapshot name = is_some (node_of snapshot name) && not (is_same_name name shared_name)

-- the name that a push hands over, as a list, which is empty if the push drops the name
abbrev pub pushed_of : State → Name → List Name
pushed_of s name = if is_pushed_in s.snapshot name then name ∷ [] else []

-- the state after a push: the first name that the mutator owes leaves its list, and is pushed if a push hands it over
abbrev pub after_push : State → ℕ → List Name → State
after_push s m [] = s
after_push s m (name ∷ rest) = record s {
  owed = slice_set s.owed m rest;
  pushed = slice_set s.pushed m (names_of s.pushed m ++ pushed_of s name);
}

-- the state after an entry joined the queue at the front, at its next position, if a position is left
abbrev pub advanced : State → Entry → State
advanced s entry = record s { queue = moved_on (node_of s.world entry.name) entry ++ s.queue }

-- the state after a scan: the queue's first entry leaves it, the name that it reads is marked, and the entry is first again
abbrev pub after_scan : State → List Entry → State
after_scan s [] = s
after_scan s (entry ∷ rest) = advanced (mark_read (record s { queue = rest }) (read_at (node_of s.world entry.name) entry.position)) entry

-- the state after a take: the first name that the mutator pushed leaves its list, and is marked
abbrev pub after_take : State → ℕ → List Name → State
after_take s m [] = s
after_take s m (name ∷ rest) = mark_name (record s { pushed = slice_set s.pushed m rest }) name

-- the effect of an event that happens
abbrev pub Does : State → Event → State → Type 0
Does s (event.Command m c answer) next = next ≡ after_command s m c
Does s (event.Push m) next = next ≡ after_push s m (names_of s.owed m)
Does s event.Scan next = next ≡ after_scan s s.queue
Does s (event.Take m) next = next ≡ after_take s m (names_of s.pushed m)
Does s event.Close next = IsClosing s next

-- the step of an event: its effect if it happened; an event that can't happen changes nothing
abbrev pub Passes : State → Event → Bool → State → Type 0
Passes s e true next = IsPossible s e × Does s e next
Passes s e false next = (IsPossible s e → ⊥) × (next ≡ s)
