-- One argument, passed on through a buffer.
use Rattle.std.specs.Prelude.{◌≡◌, ℕ, ◌<◌, ◌≤◌, List, length, take, slice_get, ⊤, Option, Some, None, Result, Ok, Err}
use Rattle.std.specs.{Option.option_map, declared.env.FillError.FillError, declared.env.FillError.TheVariants.NotPresent, declared.env.FillError.TheVariants.TooLong}
use Rattle.nmgc_arguments.specs.Output.{passed_as}

-- the argument at a position, if there is one, is passed on in this way
abbrev pub IsPassedAt : Option (List (List ℕ)) → ℕ → Option (List ℕ) → Type 0
IsPassedAt None place passed = ⊤
IsPassedAt (Some arguments) place passed = passed ≡ option_map passed_as (slice_get arguments place)

-- the argument at a position fills the front of a buffer, or there is none, or it is longer than the buffer
abbrev pub Fills : Option (List (List ℕ)) → ℕ → List ℕ → Result ℕ FillError → Type 0
Fills None place buf result = ⊤
Fills (Some arguments) place buf (Ok n) = slice_get arguments place ≡ Some (take n buf)
Fills (Some arguments) place buf (Err NotPresent) = length arguments ≤ place
Fills (Some arguments) place buf (Err TooLong) = (argument : List ℕ) × (slice_get arguments place ≡ Some argument) × (length buf < length argument)
