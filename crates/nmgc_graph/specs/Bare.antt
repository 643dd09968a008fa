-- A world without the values in its registers.
use Rattle.std.specs.Prelude.{length, map, replicate}
use Rattle.nmgc_world_spec.specs.{declared.mutator_state.MutatorState.MutatorState, declared.value.Value.TheVariants.Nil, World.World}

-- the mutator's state with nil in each register
abbrev pub cleared : MutatorState → MutatorState
cleared state = record state { registers = replicate (length state.registers) Nil }

-- the world with nil in each register; everything else stays
abbrev pub without_registers : World → World
without_registers w = record w { mutators = map cleared w.mutators }
