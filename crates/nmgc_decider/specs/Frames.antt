-- Commands that are given.
use Rattle.std.specs.Prelude.{◌≡◌}
use Rattle.nmgc_commands.specs.Fitting.{FitsAny}
use Rattle.nmgc_world_spec.specs.declared.command.Command.{Command}

-- the command is the expected one, which fits segments of any size
abbrev pub Gives : Command → Command → Type 0
Gives expected given = (given ≡ expected) × FitsAny given
