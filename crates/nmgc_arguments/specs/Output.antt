-- The text of a program's output, its writing to a sink, and the arguments that are passed on.
use Rattle.std.specs.Io.KnownBytes.{Appends}
use Rattle.std.specs.Prelude.{List, None, Option, Some, [], drop, if◌then◌else◌, length, map, nat_le, ℕ, ⊤, ◌&&◌, ◌≡◌, ◌⊎◌}
use Rattle.std.specs.Str.{is_utf8}
use Rattle.nmgc_io.specs.Text.{AppendsFront}
use Rattle.nmgc_arguments.specs.{declared.output.Text.Text, declared.output.Text.TheVariants.Fixed, declared.output.Text.TheVariants.Made}

-- the bytes of a text
abbrev pub text_bytes : Text → List ℕ
text_bytes (Fixed bytes) = bytes.now
text_bytes (Made bytes) = bytes.items

-- the text was written: whole, with the intended status; or a front of it, with the status `fault`, and the sink's count rose
abbrev pub IsWritten : {S : Type 0} → S → Option (List ℕ) → Option (List ℕ) → Type 0 → S → List ℕ → S → Type 0
IsWritten fault old new rose reported text status = ((status ≡ reported) × Appends old new text) ⊎ ((status ≡ fault) × rose × AppendsFront old new text)

-- an argument as it is passed on: itself if it is text of at most 256 bytes, and otherwise the empty argument
abbrev pub passed_as : List ℕ → List ℕ
passed_as argument = if is_utf8 argument && nat_le (length argument) 256 then argument else []

-- if a command line gives its arguments, all after the program's name are passed on, in order. Each is passed on as itself if
-- it is text of at most 256 bytes, and otherwise as the empty argument.
abbrev pub ArePassed : Option (List (List ℕ)) → List (List ℕ) → Type 0
ArePassed None passed = ⊤
ArePassed (Some arguments) passed = passed ≡ map passed_as (drop 1 arguments)
