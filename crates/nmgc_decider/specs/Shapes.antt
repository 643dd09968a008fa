-- Registers that hold constructors of a shape.
use Rattle.std.specs.Prelude.{ℕ, ◌≡◌, List, Some, length}
use Rattle.nmgc_world_spec.specs.declared.command.{Operand.TheVariants.Register, Reply.Reply, Reply.TheVariants.Given}
use Rattle.nmgc_world_spec.specs.declared.node.Node.TheVariants.{Con}
use Rattle.nmgc_world_spec.specs.declared.value.Value.{Value}
use Rattle.nmgc_world_spec.specs.World.{World, object_of, value_for}

-- the register of mutator `m` refers to a constructor with this tag and this number of fields
pub record IsShaped (tag fields : ℕ) (w : World) (m register : ℕ) : Type 0 where
  pub values : List Value
  pub found : object_of w (value_for w m (Register register)) ≡ Some (Con tag values)
  pub counted : length values ≡ fields

-- the reply gives a value, so it is no refusal
abbrev pub IsGiven : Reply → Type 0
IsGiven reply = (v : Value) × (reply ≡ Given v)
