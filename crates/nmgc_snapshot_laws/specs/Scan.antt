-- The values that a scan reads, and the end of a scan. A thunk's result is its field 0, before its free variables.
use Rattle.std.specs.Prelude.{ℕ, ◌+◌, List, [], ◌∷◌, length, slice_get, Option, Some, None, Bool, nat_le, ◌==◌, ◌||◌, ◌&&◌, if◌then◌else◌, zero, suc}
use Rattle.nmgc_world_spec.specs.{declared.value.Value.Value, declared.node.Node.Node, declared.node.Node.TheVariants.Con, declared.node.Node.TheVariants.Var, declared.node.Node.TheVariants.Arr, declared.node.Node.TheVariants.Thunk, declared.node.Node.TheVariants.Weak, declared.node.Node.TheVariants.Stack}
use Rattle.nmgc_world_laws.specs.Holds.{has_result}
use Rattle.nmgc_snapshot_laws.specs.declared.event.Entry.{Entry}

-- the value that a scan reads at field i
abbrev pub field_at : Node → ℕ → Option Value
field_at (Con tag values) i = slice_get values i
field_at (Var v) i = slice_get (v ∷ []) i
field_at (Arr values) i = slice_get values i
field_at (Thunk free result) zero = result
field_at (Thunk free result) (suc i) = slice_get free i
field_at (Weak parts) i = None
field_at (Stack size values) i = slice_get values i

-- the value that a scan reads at a position, if the object exists: position 0 is the header, and position i + 1 is field i
abbrev pub read_at : Option Node → ℕ → Option Value
read_at None position = None
read_at (Some node) zero = None
read_at (Some node) (suc i) = field_at node i

-- the number of fields that a scan reads; none for a weak pointer
abbrev pub fields_of : Node → ℕ
fields_of (Con tag values) = length values
fields_of (Var v) = 1
fields_of (Arr values) = length values
fields_of (Thunk free result) = length free + 1
fields_of (Weak parts) = 0
fields_of (Stack size values) = size

-- whether a scan ends with this position: it is the last field, or it is a thunk's result and the result is set
abbrev pub is_last : Node → ℕ → Bool
is_last node position = nat_le (fields_of node) position || ((position == 1) && has_result node)

-- the entry after its position was read, as a list, which is empty if no position is left to read
abbrev pub moved_on : Option Node → Entry → List Entry
moved_on None entry = []
moved_on (Some node) entry = if is_last node entry.position then [] else (record { name = entry.name; position = entry.position + 1 }) ∷ []
