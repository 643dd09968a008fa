-- Live, dead and kept names of a world; the history of a round; the deletion barrier; lists and counts; the wide reach.
--
-- Reachability in a world, by the weak-pointer rule. While a weak pointer's key is live, the weak pointer, its value and its
-- finaliser are live too, even if nothing refers to the weak pointer. Each set is the least one with its rules: each
-- constructor is a rule, and there are no further members.
use Rattle.std.specs.Prelude.{Contains, IsSome, List, None, Option, Some, [], filter, flat_map, if◌then◌else◌, length, option_to_list, slice_get, suc, zero, ℕ, ◌++◌, ◌<◌, ◌==◌, ◌∷◌, ◌≡◌, ◌≤◌, ◌⊎◌}
use Rattle.nmgc_world_spec.specs.World.{World, if_there, is_same, last_of, node_of, object_of, shared_name, state_of, step, value_for, with_node, with_state}
use Rattle.nmgc_world_spec.specs.declared.command.Command.TheVariants.{Cas, Deref, Finalise, Pop, Push, Set, Update}
use Rattle.nmgc_world_spec.specs.declared.node.Node.TheVariants.{Arr, Con, Stack, Thunk, Var, Weak}
use Rattle.nmgc_world_spec.specs.{declared.change.Change.Change, declared.command.Command.Command, declared.command.Reply.Reply, declared.mutator_state.MutatorState.MutatorState, declared.node.Node.Node, declared.node.Parts.Parts, declared.value.Name.Name, declared.value.Value.Value, declared.value.Value.TheVariants.Ref}
use Rattle.nmgc_world_spec.specs.declared.change.Change.TheVariants as change
use Rattle.nmgc_world_spec.specs.declared.value.Value.TheVariants as value

-- the values in a node's strong fields: of a thunk its result, or else its free variables; of a weak pointer none
abbrev pub strong_fields : Node → List Value
strong_fields (Con tag values) = values
strong_fields (Var v) = v ∷ []
strong_fields (Arr values) = values
strong_fields (Thunk free None) = free
strong_fields (Thunk free (Some result)) = result ∷ []
strong_fields (Weak parts) = []
strong_fields (Stack size values) = values

-- the name's node has a strong field that refers to the target
abbrev pub RefersTo : World → Name → Name → Type 0
RefersTo w name target = (node : Node) × (node_of w name ≡ Some node) × Contains (strong_fields node) (value.Ref target)

-- the value in a node's strong field at a position, if it has such a field
abbrev pub strong_at : Node → ℕ → Option Value
strong_at (Thunk free None) zero = None
strong_at (Thunk free None) (suc i) = slice_get free i
strong_at (Thunk free (Some result)) zero = Some result
strong_at (Thunk free (Some result)) (suc i) = None
strong_at node i = slice_get (strong_fields node) i

-- the name's node has this value in the strong field at a position
pub record HasStrongField (w : World) (name : Name) (i : ℕ) (v : Value) : Type 0 where
  pub node : Node
  pub node_is : node_of w name ≡ Some node
  pub field : strong_at node i ≡ Some v

-- the names reachable from names with property P: the least set that has all names with P and follows strong fields
pub data IsReached (w : World) (P : Name → Type 0) : Name → Type 0 where
  start : (name : Name) → P name → IsReached w P name
  field : (name target : Name) → IsReached w P name → RefersTo w name target → IsReached w P target

-- a root: g, or a name to which a register or a finaliser queue refers
abbrev pub IsRoot : World → Name → Type 0
IsRoot w name = (name ≡ shared_name) ⊎ ((m : ℕ) × Contains ((state_of w m).registers ++ (state_of w m).queue) (value.Ref name))

-- the name names a weak pointer that is alive and has these parts
abbrev pub IsAlive : World → Name → Parts → Type 0
IsAlive w weak parts = node_of w weak ≡ Some (Weak (Some parts))

-- the value is nil or a number
abbrev pub IsPlain : Value → Type 0
IsPlain (value.Ref name) = ⊥
IsPlain _ = Unit {0}

-- the target is the weak pointer itself, or its value or its finaliser refers to the target
abbrev pub IsKeptBy : Name → Parts → Name → Type 0
IsKeptBy weak parts target = (target ≡ weak) ⊎ (parts.value ≡ value.Ref target) ⊎ (parts.finaliser ≡ value.Ref target)

-- the live names: the least set that follows strong fields, and has the roots and the further names that have a node. It also
-- has each weak pointer that is alive with a plain or live key, and the names in its value and its finaliser
pub data IsLive (w : World) (extra : List Name) : Name → Type 0 where
  root : (name : Name) → IsRoot w name → IsLive w extra name
  further : (name : Name) → Contains extra name → IsSome (node_of w name) → IsLive w extra name
  field : (name target : Name) → IsLive w extra name → RefersTo w name target → IsLive w extra target
  plain_key : (weak target : Name) (parts : Parts) → IsAlive w weak parts → IsPlain parts.key → IsKeptBy weak parts target → IsLive w extra target
  live_key : (weak target key : Name) (parts : Parts) → IsAlive w weak parts → parts.key ≡ value.Ref key → IsLive w extra key →
      IsKeptBy weak parts target → IsLive w extra target

-- a dead weak pointer: it is alive so far, it isn't finalised, and its key is a reference to a name that isn't live
pub record IsDead (w : World) (extra finalised : List Name) (weak : Name) : Type 0 where
  pub parts : Parts
  pub alive : IsAlive w weak parts
  pub not_finalised : Contains finalised weak → ⊥
  pub key : Name
  pub key_is : parts.key ≡ value.Ref key
  pub lost : IsLive w extra key → ⊥

-- the kept names: the least set that has the live names and the finalisers of dead weak pointers, and follows strong fields
pub data IsKept (w : World) (extra finalised : List Name) : Name → Type 0 where
  live : (name : Name) → IsLive w extra name → IsKept w extra finalised name
  finaliser : (weak target : Name) (dead : IsDead w extra finalised weak) → dead.parts.finaliser ≡ value.Ref target → IsKept w extra finalised target
  field : (name target : Name) → IsKept w extra finalised name → RefersTo w name target → IsKept w extra finalised target

-- the order of names: by maker, and then by serial
abbrev pub IsBefore : Name → Name → Type 0
IsBefore a b = (a.maker < b.maker) ⊎ ((a.maker ≡ b.maker) × (a.serial < b.serial))

-- the list is in the order of names: each name is before the next
abbrev pub IsInOrder : List Name → Type 0
IsInOrder [] = Unit {0}
IsInOrder (name ∷ []) = Unit {0}
IsInOrder (name ∷ next ∷ names) = IsBefore name next × IsInOrder (next ∷ names)

-- the list has exactly the names with property P, in the order of names
pub record Lists (P : Name → Type 0) (names : List Name) : Type 0 where
  pub ordered : IsInOrder names
  pub sound : (name : Name) → Contains names name → P name
  pub complete : (name : Name) → P name → Contains names name

-- a mutator's state with a finaliser added at the end of its queue; a finaliser that is nil isn't added
abbrev pub queued : MutatorState → Value → MutatorState
queued state value.Nil = state
queued state v = record state { queue = state.queue ++ v ∷ [] }

-- the world after one weak pointer died, with its finaliser, unless it is nil, at the end of its maker's queue
abbrev pub closed_by : World → Name → Option Node → World
closed_by w weak (Some (Weak (Some parts))) =
    let after = with_node w weak (Weak None) in
    with_state after weak.maker (queued (state_of after weak.maker) parts.finaliser)
closed_by w weak other = w

-- the closing of a world: each weak pointer of the list dies, in the order of the list, and its finaliser is queued
abbrev pub closed : World → List Name → World
closed w [] = w
closed w (weak ∷ weaks) = closed (closed_by w weak (node_of w weak)) weaks

-- the name names a weak pointer that is alive
abbrev pub IsAliveWeak : World → Name → Type 0
IsAliveWeak w weak = (parts : Parts) × IsAlive w weak parts

-- a row of a history: a command, its mutator and its reply; the history of a round is a list of rows, in one order
pub record Row : Type 0 where
  pub mutator : ℕ
  pub command : Command
  pub reply : Reply

-- the world after the commands of rows, in their order
abbrev pub replayed : World → List Row → World
replayed w [] = w
replayed w (row ∷ rows) = replayed (step w row.mutator row.command).0 rows

-- a legal history: each reply is the world's reply at that position (the field's word: linearization)
abbrev pub IsLegal : World → List Row → Type 0
IsLegal w [] = Unit {0}
IsLegal w (row ∷ rows) = ((step w row.mutator row.command).1 ≡ row.reply) × IsLegal (step w row.mutator row.command).0 rows

-- the property holds in every world of a history: in the world with which it begins, and after each row
abbrev pub HoldsThroughout : (World → Type 0) → World → List Row → Type 0
HoldsThroughout P w [] = P w
HoldsThroughout P w (row ∷ rows) = P w × HoldsThroughout P (step w row.mutator row.command).0 rows

-- the rows of one mutator, in their order
abbrev pub rows_of : ℕ → List Row → List Row
rows_of m rows = filter (λ row. row.mutator == m) rows

-- the rows are the mutators' own rows in one order, and each mutator's rows are in its own order
abbrev pub IsOrderOf : (ℕ → List Row) → List Row → Type 0
IsOrderOf own rows = (m : ℕ) → rows_of m rows ≡ own m

-- the name that a value refers to, if it refers to one
abbrev pub name_in : Value → List Name
name_in (value.Ref name) = name ∷ []
name_in _ = []

-- the items that `take` gives for the parts of a weak pointer that is alive; none for any other object
abbrev pub from_alive : {T : Type 0} → (Parts → List T) → Option Node → List T
from_alive take (Some (Weak (Some parts))) = take parts
from_alive take _ = []

-- the names that a command opens: in the value that `deref` reads, or in the value and finaliser that `finalise` takes
abbrev pub opened_by : World → ℕ → Command → List Name
opened_by w m (Deref dest object) = from_alive (λ parts. name_in parts.value) (object_of w (value_for w m object))
opened_by w m (Finalise dest object) = from_alive (λ parts. name_in parts.value ++ name_in parts.finaliser) (object_of w (value_for w m object))
opened_by w m _ = []

-- the weak pointer that a command makes dead, if the command is a `finalise` of a weak pointer that is alive
abbrev pub finalised_by : World → ℕ → Command → List Name
finalised_by w m (Finalise dest object) = from_alive (λ parts. name_in (value_for w m object)) (object_of w (value_for w m object))
finalised_by w m _ = []

-- the opened names of a history that begins with this world: those that its commands open
abbrev pub opened : World → List Row → List Name
opened w [] = []
opened w (row ∷ rows) = opened_by w row.mutator row.command ++ opened (step w row.mutator row.command).0 rows

-- the finalised names of a history that begins with this world: the weak pointers that `finalise` made dead
abbrev pub finalised : World → List Row → List Name
finalised w [] = []
finalised w (row ∷ rows) = finalised_by w row.mutator row.command ++ finalised (step w row.mutator row.command).0 rows

-- the field at an index of a variable or an array, the two kinds whose fields can be written
abbrev pub field_held : Node → ℕ → Option Value
field_held (Var v) index = slice_get (v ∷ []) index
field_held (Arr values) index = slice_get values index
field_held _ index = None

-- the values owed for a change of a name's node: the values that the change takes out, and a weak pointer that the change makes
-- dead, without its key
abbrev pub owed_in : Change → Name → Node → List Value
owed_in (change.Set index v) name node = option_to_list (field_held node index)
owed_in (change.Exchange index expected v) name node = filter (λ old. is_same old expected) (option_to_list (field_held node index))
owed_in (change.Update v) name (Thunk free None) = free
owed_in (change.Pop m) name (Stack size values) = if name.maker == m then option_to_list (last_of values) else []
owed_in change.Finalise name (Weak (Some parts)) = value.Ref name ∷ parts.value ∷ parts.finaliser ∷ []
owed_in _ name node = []

-- the values owed for a change of the object that a value refers to
abbrev pub owed_of : World → Value → Change → List Value
owed_of w (value.Ref name) c = if_there [] (λ node. owed_in c name node) (node_of w name)
owed_of w _ c = []

-- the values that a command owes in a world: the value of a weak pointer that is read, or the values owed for its change
abbrev pub values_owed : World → ℕ → Command → List Value
values_owed w m (Deref dest object) = from_alive (λ parts. parts.value ∷ []) (object_of w (value_for w m object))
values_owed w m (Set object index v) = owed_of w (value_for w m object) (change.Set index (value_for w m v))
values_owed w m (Cas object index expected v) = owed_of w (value_for w m object) (change.Exchange index (value_for w m expected) (value_for w m v))
values_owed w m (Update object v) = owed_of w (value_for w m object) (change.Update (value_for w m v))
values_owed w m (Push object v) = owed_of w (value_for w m object) (change.Push m (value_for w m v))
values_owed w m (Pop dest object) = owed_of w (value_for w m object) (change.Pop m)
values_owed w m (Finalise dest object) = owed_of w (value_for w m object) change.Finalise
values_owed w m _ = []

-- the names that the references among the values name
abbrev pub names_among : List Value → List Name
names_among values = flat_map name_in values

-- the objects that a command owes, the deletion barrier: the names in the values that it owes
abbrev pub owed_by : World → ℕ → Command → List Name
owed_by w m c = names_among (values_owed w m c)

-- each number is less than the next
abbrev pub Ascends : List ℕ → Type 0
Ascends [] = Unit {0}
Ascends (n ∷ []) = Unit {0}
Ascends (n ∷ next ∷ ns) = (n < next) × Ascends (next ∷ ns)

-- the numbers are exactly those with property P, in ascending order
pub record ListsNumbers (P : ℕ → Type 0) (numbers : List ℕ) : Type 0 where
  pub ordered : Ascends numbers
  pub sound : (n : ℕ) → Contains numbers n → P n
  pub complete : (n : ℕ) → P n → Contains numbers n

-- no name is in the list twice
abbrev pub AreDistinct : List Name → Type 0
AreDistinct [] = Unit {0}
AreDistinct (name ∷ names) = (Contains names name → ⊥) × AreDistinct names

-- exactly `count` names have property P
abbrev pub Counts : (Name → Type 0) → ℕ → Type 0
Counts P count = (names : List Name) × Lists P names × (count ≡ length names)

-- at most `count` names have property P
abbrev pub AtMost : (Name → Type 0) → ℕ → Type 0
AtMost P count = (names : List Name) → AreDistinct names → ((name : Name) → Contains names name → P name) → length names ≤ count

-- more than `count` names have property P
abbrev pub MoreThan : (Name → Type 0) → ℕ → Type 0
MoreThan P count = (names : List Name) × AreDistinct names × ((name : Name) → Contains names name → P name) × (count < length names)

-- The wide reach: each name that a mutator could still hold later.
--
-- A weak pointer that is alive gives its value to any mutator that reads it, and its finaliser to a queue once it dies. It
-- does so even if nothing refers to it. So the wide reach begins with these weak pointers too.

-- the name is the weak pointer itself, or one of the weak pointer's three parts refers to it
abbrev pub IsOfWeak : Name → Parts → Name → Type 0
IsOfWeak weak parts name = (name ≡ weak) ⊎ ((parts.key ≡ Ref name) ⊎ ((parts.value ≡ Ref name) ⊎ (parts.finaliser ≡ Ref name)))

-- the wide reach, the project's own: what strong fields reach from roots, and from weak pointers that are alive and their parts
abbrev pub IsWide : World → Name → Type 0
IsWide w = IsReached w (λ name. IsRoot w name ⊎ ((weak : Name) × (parts : Parts) × IsAlive w weak parts × IsOfWeak weak parts name))
