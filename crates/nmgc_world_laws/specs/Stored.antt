-- The commands that put a value into an existing object, and the field that gets it.
--
-- A promotion looks for nursery objects from the roots and from old objects, but needn't look through all old objects. A
-- reference to a nursery object is in an old object only if a command stored it. That command reached the old object, so the
-- object was in the wide reach as the round began. The parts of an old weak pointer never change, so they are old too.
use Rattle.std.specs.Prelude.{◌≡◌, ◌⊎◌, ◌++◌, ℕ, List, ◌∷◌, length, Option, Some, None, IsSome}
use Rattle.nmgc_world_spec.specs.{declared.value.Name.Name, declared.value.Value.Value, declared.node.Parts.Parts, declared.node.Node.Node, declared.node.Node.TheVariants.Stack, declared.change.Change.Change, declared.command.Command.Command, declared.command.Command.TheVariants.Finalise, declared.command.Operand.Operand, World.World, World.state_of, World.node_of, World.next_name, World.value_for, World.step, Known.IsWorld, Known.CanApply, Written.asked, Reach.Row, Reach.replayed, Reach.IsAlive, Reach.IsWide}
use Rattle.nmgc_world_spec.specs.declared.value.Value.TheVariants as value
use Rattle.nmgc_world_spec.specs.declared.change.Change.TheVariants as change
use Rattle.nmgc_world_laws.specs.{Holds.HasStrongField, Reachable.CanReplay}

-- the value that a change writes, if it writes one
abbrev pub value_written : Change → Option Value
value_written (change.Set index v) = Some v
value_written (change.Exchange index expected v) = Some v
value_written (change.Update v) = Some v
value_written (change.Push m v) = Some v
value_written _ = None

-- the field that a change writes: a thunk's result is field 0, and a stack's next value goes to its depth
abbrev pub place_written : Change → Node → Option ℕ
place_written (change.Set index v) node = Some index
place_written (change.Exchange index expected v) node = Some index
place_written (change.Update v) node = Some 0
place_written (change.Push m v) (Stack size values) = Some (length values)
place_written _ node = None

-- a command stores a value in a field of a name's object: it asks for a change of the object, and the change writes the value
-- there. The field is the field of `set` or `cas`, field 0 of a thunk for its result, or the depth of a stack.
pub record Stores (w : World) (m : ℕ) (c : Command) (name : Name) (field : ℕ) (v : Value) : Type 0 where
  pub changes : Change
  pub asks : asked w m c ≡ Some (value.Ref name, changes)
  pub node : Node
  pub there : node_of w name ≡ Some node
  pub place : place_written changes node ≡ Some field
  pub writes : value_written changes ≡ Some v

-- a value in a strong field after a command was there before, or the command made the object or stores the value there
abbrev pub StepStores : Type 0
StepStores = (w : World) (m : ℕ) (c : Command) → IsWorld w → CanApply w m c → (name : Name) (field : ℕ) (v : Value) →
    HasStrongField (step w m c).0 name field v → HasStrongField w name field v ⊎ ((name ≡ next_name (state_of w m) m) ⊎ Stores w m c name field v)

-- one of the commands stores the value in this field of an object that was in the wide reach as the commands began
pub record IsStored (began : World) (rows : List Row) (name : Name) (field : ℕ) (v : Value) : Type 0 where
  pub before : List Row
  pub row : Row
  pub after : List Row
  pub rows_are : rows ≡ before ++ row ∷ after
  pub stores : Stores (replayed began before) row.mutator row.command name field v
  pub wide : IsWide began name

-- a reference from a strong field of an old object to a new object was stored there by one of the commands
abbrev pub OldRefersToYoung : Type 0
OldRefersToYoung = (began : World) (rows : List Row) → IsWorld began → CanReplay began rows → (name target : Name) (field : ℕ) →
    IsSome (node_of began name) → (IsSome (node_of began target) → ⊥) → HasStrongField (replayed began rows) name field (value.Ref target) →
    IsStored began rows name field (value.Ref target)

-- a weak pointer that existed before some commands and is alive after them was alive before them, with the same parts
abbrev pub OldWeaksStay : Type 0
OldWeaksStay = (began : World) (rows : List Row) → IsWorld began → CanReplay began rows → (weak : Name) (parts : Parts) →
    IsSome (node_of began weak) → IsAlive (replayed began rows) weak parts → IsAlive began weak parts

-- one of the commands finalises the weak pointer: the command is a `finalise` of it, and finds it alive
pub record IsFinalised (began : World) (rows : List Row) (weak : Name) : Type 0 where
  pub before : List Row
  pub row : Row
  pub after : List Row
  pub rows_are : rows ≡ before ++ row ∷ after
  pub dest : ℕ
  pub object : Operand
  pub command : row.command ≡ Finalise dest object
  pub refers : value_for (replayed began before) row.mutator object ≡ value.Ref weak
  pub parts : Parts
  pub alive : IsAlive (replayed began before) weak parts

-- a weak pointer that was alive before some commands and isn't alive after them was finalised by one of them
abbrev pub OldWeaksAreFinalised : Type 0
OldWeaksAreFinalised = (began : World) (rows : List Row) → IsWorld began → CanReplay began rows → (weak : Name) (parts : Parts) →
    IsAlive began weak parts → (IsAlive (replayed began rows) weak parts → ⊥) → IsFinalised began rows weak
