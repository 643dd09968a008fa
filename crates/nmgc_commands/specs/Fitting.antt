-- Commands that fit segments of any size.
use Rattle.std.specs.Prelude.{ℕ, ◌≤◌}
use Rattle.nmgc_limits.specs.Limits.{least_segment_words}
use Rattle.nmgc_world_spec.specs.{declared.command.Command.Command, World.Fits}

-- a command fits segments of any size that a heap may have
abbrev pub FitsAny : Command → Type 0
FitsAny c = (words : ℕ) → least_segment_words ≤ words → Fits words c
