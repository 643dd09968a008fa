-- A program's waiting command.
use Rattle.std.specs.Prelude.{ℕ, ◌<◌, Option, None, Some}
use Rattle.nmgc_world_spec.specs.{declared.command.Command.Command, World.Fits}

-- if a command waits, it fits segments of `words` words, and a command is left
abbrev pub IsWaiting : ℕ → ℕ → Option Command → Type 0
IsWaiting words left None = Unit {0}
IsWaiting words left (Some c) = Fits words c × (0 < left)
