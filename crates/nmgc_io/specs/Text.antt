-- Lines and tokens of a text, and the bytes that a call takes from a source or writes to a sink.
use Rattle.std.specs.Io.KnownBytes.{Appends, Consumes}
use Rattle.std.specs.List.{flat_map, join_with_byte}
use Rattle.std.specs.Prelude.{Bool, List, Option, [], if◌then◌else◌, length, min, take, true, ℕ, ◌++◌, ◌+◌, ◌-◌, ◌<◌, ◌==◌, ◌^◌, ◌∷◌, ◌≡◌, ◌≤◌}

-- the parts of a text with one more byte at the front of the first part
abbrev pub onto_first : ℕ → List (List ℕ) → List (List ℕ)
onto_first b [] = (b ∷ []) ∷ []
onto_first b (part ∷ parts) = (b ∷ part) ∷ parts

-- the lines of a text, without the line feeds that end them; the last line may lack its line feed
abbrev pub lines_of : List ℕ → List (List ℕ)
lines_of [] = []
lines_of (b ∷ bytes) = if b == 10 then [] ∷ lines_of bytes else onto_first b (lines_of bytes)

-- the tokens of a line, cut at each single space; an empty line has one empty token
abbrev pub tokens_of : List ℕ → List (List ℕ)
tokens_of [] = [] ∷ []
tokens_of (b ∷ bytes) = if b == 32 then [] ∷ tokens_of bytes else onto_first b (tokens_of bytes)

-- the line is empty, or a comment, which begins with '#'
abbrev pub is_blank_or_comment : List ℕ → Bool
is_blank_or_comment [] = true
is_blank_or_comment (b ∷ bytes) = b == 35

-- the line that tokens spell, with one space between neighbours
abbrev pub spaced : List (List ℕ) → List ℕ
spaced tokens = join_with_byte 32 tokens

-- the lines, each with a line feed at its end
abbrev pub ended : List (List ℕ) → List ℕ
ended lines = flat_map (λ line. line ++ 10 ∷ []) lines

-- exactly n bytes were taken from the front of the source's known bytes
abbrev pub Takes : Option (List ℕ) → Option (List ℕ) → ℕ → Type 0
Takes old new n = (bytes : List ℕ) × Consumes old new bytes × (length bytes ≡ n)

-- at most n bytes were taken from the front of the source's known bytes
abbrev pub TakesUpTo : Option (List ℕ) → Option (List ℕ) → ℕ → Type 0
TakesUpTo old new n = (bytes : List ℕ) × Consumes old new bytes × (length bytes ≤ n)

-- some of the bytes, from their front and fewer than all, were appended to the sink's bytes
abbrev pub AppendsFront : Option (List ℕ) → Option (List ℕ) → List ℕ → Type 0
AppendsFront old new bytes = (n : ℕ) × (n < length bytes) × Appends old new (take n bytes)

-- the count that follows a count: one more, and at most 2^64 - 1
abbrev pub next : ℕ → ℕ
next n = min (n + 1) (2 ^ 64 - 1)

-- a count of faults rose: it is greater than before, or it is 2^64 - 1, at which it stays
abbrev pub Rose : ℕ → ℕ → Type 0
Rose before now = next before ≤ now
