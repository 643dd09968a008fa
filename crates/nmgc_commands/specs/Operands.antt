-- The operands of a command, whether a few lie in the command or all in a vector.
use Rattle.std.specs.Prelude.{◌<◌, List, length}
use Rattle.nmgc_world_spec.specs.declared.command.Operand.{Operand}
use Rattle.nmgc_commands.specs.{declared.operands.TheConstants.FEW_OPERANDS, declared.operands.Held.Held, declared.operands.Held.TheVariants.Few, declared.operands.Held.TheVariants.Many}

-- the operands of a command in order, whether a few lie in the command or all in a vector
abbrev pub held_operands : Held → List Operand
held_operands (Few few) = few
held_operands (Many many) = many

-- there is room for one more operand: fewer than six lie in the command, or all lie in a vector that can grow
abbrev pub HasRoom : Held → Type 0
HasRoom (Few few) = length few < FEW_OPERANDS
HasRoom (Many many) = Unit {0}
