-- Bits that mark the spaces of a line.
use Rattle.std.specs.Int.{bit_at}
use Rattle.std.specs.Prelude.{◌≡◌, ◌<◌, ◌==◌, ℕ, List, length, slice_index, if◌then◌else◌}

-- bit k is 1 if byte k of the line is a space, and 0 if it is another byte. Bits beyond the line may be 0 or 1.
abbrev pub MarksSpaces : ℕ → List ℕ → Type 0
MarksSpaces marks line = (k : ℕ) → k < length line → bit_at marks k ≡ (if slice_index line k == 32 then 1 else 0)
