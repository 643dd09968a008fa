-- The effect of a change in two parts: whether its reply says that it is done, and the node that it leaves then.
use Rattle.std.specs.Prelude.{ℕ, [], ◌∷◌, ◌++◌, length, slice_get, slice_set, Option, Some, None, Bool, true, false, nat_lt, if◌then◌else◌}
use Rattle.nmgc_world_spec.specs.{declared.value.Value.Value, declared.node.Node.Node, declared.node.Node.TheVariants.Con, declared.node.Node.TheVariants.Var, declared.node.Node.TheVariants.Arr, declared.node.Node.TheVariants.Thunk, declared.node.Node.TheVariants.Weak, declared.node.Node.TheVariants.Stack, declared.command.Reply.Reply, declared.change.Change.Change, declared.command.Command.Command, declared.command.Command.TheVariants.Set, declared.command.Command.TheVariants.Cas, declared.command.Command.TheVariants.Update, declared.command.Command.TheVariants.Push, declared.command.Command.TheVariants.Pop, declared.command.Command.TheVariants.Finalise, declared.command.Reply.TheVariants.Fine, declared.command.Reply.TheVariants.Yes, declared.command.Reply.TheVariants.Updated, declared.command.Reply.TheVariants.Given, World.World, World.value_for, World.change_object, Pieces.without_last}
use Rattle.nmgc_world_spec.specs.declared.change.Change.TheVariants as change

-- the field at this index, if the node is a constructor, a variable or an array and has such a field; otherwise none
abbrev pub field_in : Node → ℕ → Option Value
field_in (Con tag values) index = slice_get values index
field_in (Var v) index = slice_get (v ∷ []) index
field_in (Arr values) index = slice_get values index
field_in (Thunk free result) index = None
field_in (Weak parts) index = None
field_in (Stack size values) index = None

-- whether a change with this reply is done: ok, yes, updated and a value say so; after any other reply the node is as before
abbrev pub is_done : Reply → Bool
is_done Fine = true
is_done Yes = true
is_done Updated = true
is_done (Given v) = true
is_done _ = false

-- the node with the value at the index; an array without this field stays as it is, and a variable has one field at any index
abbrev pub field_written : Node → ℕ → Value → Node
field_written (Con tag values) index v = Con tag values
field_written (Var old) index v = Var v
field_written (Arr values) index v = if nat_lt index (length values) then Arr (slice_set values index v) else Arr values
field_written (Thunk free result) index v = Thunk free result
field_written (Weak parts) index v = Weak parts
field_written (Stack size values) index v = Stack size values

-- the thunk with this value as its result; any other node stays as it is
abbrev pub result_written : Node → Value → Node
result_written (Thunk free result) v = Thunk free (Some v)
result_written node v = node

-- the stack with this value on top, whatever its size; any other node stays as it is
abbrev pub value_pushed : Node → Value → Node
value_pushed (Stack size values) v = Stack size (values ++ v ∷ [])
value_pushed node v = node

-- the stack without its top value; any other node stays as it is
abbrev pub top_dropped : Node → Node
top_dropped (Stack size values) = Stack size (without_last values)
top_dropped node = node

-- the weak pointer as a dead one; any other node stays as it is
abbrev pub killed : Node → Node
killed (Weak parts) = Weak None
killed node = node

-- the node that a change leaves if the reply says that it is done; nothing is refused here
abbrev pub written : Change → Node → Node
written (change.Set index v) node = field_written node index v
written (change.Exchange index expected v) node = field_written node index v
written (change.Update v) node = result_written node v
written (change.Push m v) node = value_pushed node v
written (change.Pop m) node = top_dropped node
written change.Finalise node = killed node

-- the write that a `set` or `cas` asks for, with the value of its object operand; none for other commands
abbrev pub asked_write : World → ℕ → Command → Option (Value × Change)
asked_write w m (Set object index v) = Some (value_for w m object, change.Set index (value_for w m v))
asked_write w m (Cas object index expected v) = Some (value_for w m object, change.Exchange index (value_for w m expected) (value_for w m v))
asked_write w m _ = None

-- the change that a command asks for, with the value of its object operand; only six commands ask for a change
abbrev pub asked : World → ℕ → Command → Option (Value × Change)
asked w m (Update object v) = Some (value_for w m object, change.Update (value_for w m v))
asked w m (Push object v) = Some (value_for w m object, change.Push m (value_for w m v))
asked w m (Pop dest object) = Some (value_for w m object, change.Pop m)
asked w m (Finalise dest object) = Some (value_for w m object, change.Finalise)
asked w m c = asked_write w m c

-- the world after the change that a command asks for, and the reply; without such a change the world stays as it is
abbrev pub change_asked : World → Option (Value × Change) → World × Reply
change_asked w None = (w, Fine)
change_asked w (Some (object, c)) = change_object w object c
