-- The state of the marking machine as contracts see it, and the marking of a name.
use Rattle.std.specs.Prelude.{ℕ, List, [], ◌∷◌, ◌++◌, length, replicate, slice_index_or, Option, Some, None, is_some, Bool, false, not, ◌&&◌, ◌||◌, if◌then◌else◌}
use Rattle.std.specs.List.{flat_map}
use Rattle.nmgc_world_spec.specs.{declared.value.Name.Name, declared.value.Value.Value, declared.mutator_state.MutatorState.MutatorState, World.World, World.node_of, World.is_same_name, World.shared_name, Reach.strong_fields}
use Rattle.nmgc_world_spec.specs.declared.value.Value.TheVariants as value
use Rattle.nmgc_snapshot_laws.specs.declared.event.Entry.{Entry}

-- the order in which queued names are scanned: oldest first, or newest first, as from a stack
pub data Order : Type 0 where
  oldest_first : Order
  newest_first : Order

-- a state: the world as it is, the snapshot, the marked names in the order of marking, and the queue of names with the
-- position that is read next. Then the order of the queue and, for each mutator, the names that it owes and the names that it
-- pushed. Then the names opened and finalised since the snapshot, and whether marking has ended.
pub record State : Type 0 where
  pub world : World
  pub snapshot : World
  pub marked : List Name
  pub queue : List Entry
  pub order : Order
  pub owed : List (List Name)
  pub pushed : List (List Name)
  pub opened : List Name
  pub finalised : List Name
  pub is_closed : Bool

-- the names of one mutator
abbrev pub names_of : List (List Name) → ℕ → List Name
names_of lists m = slice_index_or lists m []

-- whether the name is in the list
abbrev pub is_listed : Name → List Name → Bool
is_listed name [] = false
is_listed name (x ∷ xs) = is_same_name x name || is_listed name xs

-- whether the name is an unmarked name of the snapshot
abbrev pub is_new : State → Name → Bool
is_new s name = is_some (node_of s.snapshot name) && not (is_listed name s.marked)

-- the entry of a name before any position is read
abbrev pub entry_of : Name → Entry
entry_of name = record { name = name; position = 0 }

-- the queue after an entry joined it: at the back, or at the front
abbrev pub joined : Order → List Entry → Entry → List Entry
joined oldest_first queue entry = queue ++ entry ∷ []
joined newest_first queue entry = entry ∷ queue

-- the state after the name was marked and queued
abbrev pub with_mark : State → Name → State
with_mark s name = record s { marked = s.marked ++ name ∷ []; queue = joined s.order s.queue (entry_of name) }

-- the state after marking a name: an unmarked name of the snapshot is marked and queued, and any other name changes nothing
abbrev pub mark_name : State → Name → State
mark_name s name = if is_new s name then with_mark s name else s

-- the state after marking the name that a value refers to, if any
abbrev pub mark_value : State → Value → State
mark_value s value.Nil = s
mark_value s (value.Number n) = s
mark_value s (value.Ref name) = mark_name s name

-- the state after marking the name that was read, if any
abbrev pub mark_read : State → Option Value → State
mark_read s None = s
mark_read s (Some v) = mark_value s v

-- the state after marking the names that values refer to, in order
abbrev pub mark_values : State → List Value → State
mark_values s [] = s
mark_values s (v ∷ vs) = mark_values (mark_value s v) vs

-- the values in the roots: in the registers, then in the finaliser queues, then in the slots of g
abbrev pub root_values : World → List Value
root_values w = flat_map (λ (state : MutatorState). state.registers) w.mutators ++
    (flat_map (λ (state : MutatorState). state.queue) w.mutators ++ strong_fields w.shared)

-- the state of a world in which only g is marked
abbrev pub unmarked : Order → World → State
unmarked order w = record {
  world = w;
  snapshot = w;
  marked = shared_name ∷ [];
  queue = [];
  order = order;
  owed = replicate (length w.mutators) [];
  pushed = replicate (length w.mutators) [];
  opened = [];
  finalised = [];
  is_closed = false;
}

-- the state when marking begins: the world is its own snapshot. g and the targets of registers, finaliser queues and slots of
-- g are marked. All of these except g are queued, each at its first mention.
abbrev pub opening_in : Order → World → State
opening_in order w = mark_values (unmarked order w) (root_values w)

-- the same, with the oldest entry scanned first
abbrev pub opening : World → State
opening w = opening_in oldest_first w
