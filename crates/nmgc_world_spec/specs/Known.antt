-- Worlds whose names are all known, and the commands that such a world can take.
use Rattle.std.specs.Prelude.{◌≡◌, ℕ, ◌+◌, ◌<◌, ◌≤◌, ◌^◌, List, length, Option, Some, None, IsSome, IfSome, All, ◌-◌}
use Rattle.nmgc_world_spec.specs.{declared.value.Name.Name, declared.value.Value.Value, declared.node.Node.Node, declared.node.Node.TheVariants.Stack, declared.command.Reply.Reply, declared.command.Reply.TheVariants.Given, declared.change.Change.Change, declared.command.Operand.Operand, declared.command.Command.Command, World.World, World.state_of, World.serial_of, World.node_of, World.HasRegistersBelow, World.held_by, World.IsShared, World.IsOperandBelow}
use Rattle.nmgc_limits.specs.declared.mutators.TheConstants.{REGISTERS, MAKERS}
use Rattle.nmgc_world_spec.specs.declared.value.Value.TheVariants as value
use Rattle.nmgc_world_spec.specs.declared.change.Change.TheVariants as change
use Rattle.nmgc_world_spec.specs.declared.command.Command.TheVariants as command

-- if the node is a stack, it has no more values than its size
abbrev pub IsSized : Node → Type 0
IsSized (Stack size values) = length values ≤ size
IsSized _ = Unit {0}

-- a known value: if it is a reference, its name has a node
abbrev pub IsKnown : World → Value → Type 0
IsKnown w value.Nil = Unit {0}
IsKnown w (value.Number n) = Unit {0}
IsKnown w (value.Ref name) = IsSome (node_of w name)

-- all of the values are known
abbrev pub AreKnown : World → List Value → Type 0
AreKnown w values = All (IsKnown w) values

-- the condition of a world on a node: its values are known, and a stack is within its size
pub record IsNodeOf (w : World) (node : Node) : Type 0 where
  pub known : AreKnown w (held_by node)
  pub sized : IsSized node

-- the value that a reply gives, if it gives one
abbrev pub given : Reply → Option Value
given (Given v) = Some v
given _ = None

-- the value that a reply gives, if it gives one, is known
abbrev pub IsKnownReply : World → Reply → Type 0
IsKnownReply w reply = IfSome (given reply) (IsKnown w)

-- the value that a change writes, if it writes one, is known
abbrev pub IsKnownChange : World → Change → Type 0
IsKnownChange w (change.Set index v) = IsKnown w v
IsKnownChange w (change.Exchange index expected v) = IsKnown w v
IsKnownChange w (change.Update v) = IsKnown w v
IsKnownChange w (change.Push m v) = IsKnown w v
IsKnownChange w _ = Unit {0}

-- the condition of each world. It has 1 to 32 mutators, each with 64 registers, a finaliser queue and a next serial, and g
-- with its slots. It is closed: each reference in it names a node of the map. A stack has no more values than its size.
pub record IsWorld (w : World) : Type 0 where
  pub some : 1 ≤ length w.mutators
  pub few : length w.mutators ≤ MAKERS
  pub registers : (m : ℕ) → m < length w.mutators → length (state_of w m).registers ≡ REGISTERS
  pub serials : (m : ℕ) → length (state_of w m).nodes < 2 ^ 32
  pub shared : IsShared w.shared
  pub known_registers : (m : ℕ) → AreKnown w (state_of w m).registers
  pub known_queue : (m : ℕ) → AreKnown w (state_of w m).queue
  pub nodes : (name : Name) → IfSome (node_of w name) (IsNodeOf w)

-- the growth of a world by a mutator's command: no name leaves the map, no serial falls, the mutator's own rises by at most 1
pub record Grows (old new : World) (m : ℕ) : Type 0 where
  pub mutators : length new.mutators ≡ length old.mutators
  pub serials : (k : ℕ) → serial_of old k ≤ serial_of new k
  pub by_one : serial_of new m ≤ serial_of old m + 1
  pub names : (name : Name) → IsSome (node_of old name) → IsSome (node_of new name)

-- the register's number is below the bound
abbrev pub IsRegisterBelow : ℕ → ℕ → Type 0
IsRegisterBelow bound r = r < bound

-- all registers of the command exist
abbrev pub HasRegisters : Command → Type 0
HasRegisters = HasRegistersBelow REGISTERS

-- the register exists
abbrev pub IsRegister : ℕ → Type 0
IsRegister = IsRegisterBelow REGISTERS

-- the operand's register exists, if the operand is a register
abbrev pub IsOperand : Operand → Type 0
IsOperand = IsOperandBelow REGISTERS

-- the command makes an object
abbrev pub IsMaking : Command → Type 0
IsMaking (command.Con dest tag fields) = Unit {0}
IsMaking (command.Var dest v) = Unit {0}
IsMaking (command.Arr dest count v) = Unit {0}
IsMaking (command.Rec dest fields) = Unit {0}
IsMaking (command.Thunk dest free) = Unit {0}
IsMaking (command.Weak dest key v finaliser) = Unit {0}
IsMaking (command.Stack dest size) = Unit {0}
IsMaking _ = ⊥

-- a world can take a command: the mutator and the command's registers exist, and the mutator has a serial left
pub record CanApply (w : World) (m : ℕ) (c : Command) : Type 0 where
  pub mutator : m < length w.mutators
  pub registers : HasRegisters c
  pub serial : serial_of w m < 2 ^ 32 - 1
