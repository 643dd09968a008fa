use Rattle.nmgc_graph.proofs.Vocabulary.{◌≡◌, map, take, value_of}
use Rattle.nmgc_graph.proofs.world.values_at.Given as goal

-- the values so far belong to the operands so far
abbrev pub invariant-loop-operand : goal.invariant-loop-operand
invariant-loop-operand l = l.values.items ≡ map (value_of l.registers) (take l.operand-index l.operands)
