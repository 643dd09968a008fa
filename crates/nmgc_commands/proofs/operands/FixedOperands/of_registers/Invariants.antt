use Rattle.std.proofs.Common.{◌≡◌, length, map, take, All}
use Rattle.nmgc_limits.specs.declared.mutators.TheConstants.{REGISTERS}
use Rattle.nmgc_world_spec.specs.World.{IsOperandBelow}
use Rattle.nmgc_world_spec.specs.declared.command.Operand.TheVariants as operand
use Rattle.nmgc_commands.proofs.operands.FixedOperands.of_registers.Given as goal

-- the operands so far are the registers so far
abbrev pub invariant-loop-register : goal.invariant-loop-register
invariant-loop-register l = record {
  count : length l.operands ≡ l.register-index;
  values : l.operands ≡ map operand.Register (take l.register-index l.registers);
  exist : All (IsOperandBelow REGISTERS) l.operands;
}
