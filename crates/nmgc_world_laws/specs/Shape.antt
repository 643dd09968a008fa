-- The shape of an object: its kind, its tag and its number of fields. No command changes it, so size and header stay.
use Rattle.std.specs.Prelude.{◌≡◌, ◌+◌, ℕ, List, [], length, replicate, Option, Some, None}
use Rattle.nmgc_world_spec.specs.{declared.value.Name.Name, declared.node.Kind.Kind, declared.node.Node.Node, declared.node.Node.TheVariants.Con, declared.node.Node.TheVariants.Var, declared.node.Node.TheVariants.Arr, declared.node.Node.TheVariants.Thunk, declared.node.Node.TheVariants.Weak, declared.node.Node.TheVariants.Stack, declared.command.Command.Command, World.World, World.node_of, World.value_for, World.step, Known.IsWorld, Known.CanApply, Pieces.values_for, Reach.Row, Reach.replayed, Reach.closed}
use Rattle.nmgc_world_spec.specs.declared.node.Kind.TheVariants as kind
use Rattle.nmgc_world_spec.specs.declared.command.Command.TheVariants as command
use Rattle.nmgc_world_laws.specs.Reachable.{CanReplay}

abbrev pub kind_of : Node → Kind
kind_of (Con tag values) = kind.Con
kind_of (Var v) = kind.Var
kind_of (Arr values) = kind.Arr
kind_of (Thunk free result) = kind.Thunk
kind_of (Weak parts) = kind.Weak
kind_of (Stack size values) = kind.Stack

-- the tag of a constructor; 0 for the other kinds, which have none
abbrev pub tag_of : Node → ℕ
tag_of (Con tag values) = tag
tag_of _ = 0

-- the number of fields: a thunk's result counts beside its free variables, a dead weak pointer has three, a stack its size
abbrev pub part_count : Node → ℕ
part_count (Con tag values) = length values
part_count (Var v) = 1
part_count (Arr values) = length values
part_count (Thunk free result) = length free + 1
part_count (Weak parts) = 3
part_count (Stack size values) = size

-- the number of words of an object: a header, a name, and a word for each field
abbrev pub words_of : Node → ℕ
words_of node = 2 + part_count node

-- two nodes have the same shape: kind, tag and number of fields
pub record SameShape (before after : Node) : Type 0 where
  pub kind : kind_of after ≡ kind_of before
  pub tag : tag_of after ≡ tag_of before
  pub parts : part_count after ≡ part_count before

-- each name that has a node has a node of the same shape later
abbrev pub KeepsShapes : World → World → Type 0
KeepsShapes w v = (name : Name) (before : Node) → node_of w name ≡ Some before → (after : Node) × (node_of v name ≡ Some after) × SameShape before after

-- the node of the object that a command makes, if it makes one
abbrev pub made_by : World → ℕ → Command → Option Node
made_by w m (command.Con dest tag fields) = Some (Con tag (values_for w m fields))
made_by w m (command.Var dest v) = Some (Var (value_for w m v))
made_by w m (command.Arr dest count v) = Some (Arr (replicate count (value_for w m v)))
made_by w m (command.Rec dest fields) = Some (Arr (values_for w m fields))
made_by w m (command.Thunk dest free) = Some (Thunk (values_for w m free) None)
made_by w m (command.Weak dest key v finaliser) = Some (Weak (Some (record {
  key = value_for w m key;
  value = value_for w m v;
  finaliser = value_for w m finaliser;
})))
made_by w m (command.Stack dest size) = Some (Stack size [])
made_by w m _ = None

-- no command changes the shape of an object
abbrev pub StepKeepsShapes : Type 0
StepKeepsShapes = (w : World) (m : ℕ) (c : Command) → IsWorld w → CanApply w m c → KeepsShapes w (step w m c).0

-- no list of commands changes the shape of an object
abbrev pub RowsKeepShapes : Type 0
RowsKeepShapes = (w : World) (rows : List Row) → IsWorld w → CanReplay w rows → KeepsShapes w (replayed w rows)

-- no closing changes the shape of an object
abbrev pub ClosingKeepsShapes : Type 0
ClosingKeepsShapes = (w : World) (weaks : List Name) → IsWorld w → KeepsShapes w (closed w weaks)
