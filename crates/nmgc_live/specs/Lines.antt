-- The lines of a source: the bytes read, and the answers of a line reader.
use Rattle.std.specs.Prelude.{ℕ, ◌≡◌, ◌≢◌, ◌+◌, ◌-◌, ◌^◌, ◌<◌, ◌≤◌, ◌++◌, List, [], ◌∷◌, length, take, drop, min, All, Bool, true, false, Option, Result, Ok, Err}
use Rattle.std.specs.Io.KnownBytes.{Consumes, IsAtEnd}
use Rattle.nmgc_io.specs.declared.ends.ReadEnd.{ReadEnd}
use Rattle.nmgc_io.specs.declared.ends.ReadEnd.TheVariants.{ReadFault}
use Rattle.nmgc_live.specs.declared.lines.{LineReader.LineReader, NextLine.NextLine, TheConstants.MAX_LINE_BYTES}
use Rattle.nmgc_live.specs.declared.lines.NextLine.TheVariants as next

-- a line with its line feed
abbrev pub fed : List ℕ → List ℕ
fed line = line ++ 10 ∷ []

-- the bytes have no line feed
abbrev pub HasNoLineFeed : List ℕ → Type 0
HasNoLineFeed bytes = All (λ b. b ≢ 10) bytes

-- the unread bytes of a reader: they came from the source, and are in no line yet
abbrev pub unread : LineReader → List ℕ
unread r = drop r.start (take r.end r.piece.items)

-- a reader between two calls: its buffer has room, and the bytes that are in no line yet lie in it
pub record IsReader (r : LineReader) : Type 0 where
  pub room : 0 < length r.piece.items
  pub order : r.start ≤ r.end
  pub within : r.end ≤ length r.piece.items

-- the part of a line that was read: it is kept, unless it has more bytes than a line may have
pub record HoldsPart (is_long : Bool) (line part : List ℕ) : Type 0 where
  pub kept : is_long ≡ false → line ≡ part
  pub short : is_long ≡ false → length part ≤ MAX_LINE_BYTES
  pub long : is_long ≡ true → MAX_LINE_BYTES < length part

-- a part without a line feed is cut from the front of the bytes, up to a line feed or to the end
abbrev pub EndsPart : Bool → List ℕ → List ℕ → List ℕ → Type 0
EndsPart true before part after = before ≡ part ++ 10 ∷ after
EndsPart false before part after = (before ≡ part) × (after ≡ [])

-- the unread bytes and newly read bytes are a line with its line feed, and then the bytes that are unread now
abbrev pub ReadsLine : LineReader → LineReader → Option (List ℕ) → Option (List ℕ) → List ℕ → Type 0
ReadsLine old new before now line = (taken : List ℕ) × Consumes before now taken × (unread old ++ taken ≡ line ++ 10 ∷ unread new) × HasNoLineFeed line

-- no line feed is among the unread bytes and newly read bytes
abbrev pub ReadsNoLine : LineReader → Option (List ℕ) → Option (List ℕ) → Type 0
ReadsNoLine old before now = (taken : List ℕ) × Consumes before now taken × HasNoLineFeed (unread old ++ taken)

-- a line that a session may accept: it has no line feed, and at most `MAX_LINE_BYTES` bytes
abbrev pub IsShortLine : List ℕ → Type 0
IsShortLine line = HasNoLineFeed line × (length line ≤ MAX_LINE_BYTES)

-- a line was read that isn't too long
abbrev pub ReadsShort : LineReader → LineReader → Option (List ℕ) → Option (List ℕ) → List ℕ → Type 0
ReadsShort old new before now line = ReadsLine old new before now line × (length line ≤ MAX_LINE_BYTES)

-- the source ended behind some bytes without a line feed
abbrev pub ReadsCut : LineReader → LineReader → Option (List ℕ) → Option (List ℕ) → Type 0
ReadsCut old new before now = (q : ReadsNoLine old before now) × (unread old ++ q.0 ≢ []) × (unread new ≡ []) × IsAtEnd now

-- the source ended behind a line
abbrev pub ReadsEnd : LineReader → LineReader → Option (List ℕ) → Option (List ℕ) → Type 0
ReadsEnd old new before now = Consumes before now [] × (unread old ≡ []) × (unread new ≡ []) × IsAtEnd now

-- the answer of a reader: a line that it holds, a line that is too long, no line feed, or the end of the source. If the source
-- fails, no whole line is left
abbrev pub IsNextLine : LineReader → LineReader → Option (List ℕ) → Option (List ℕ) → Result NextLine ReadEnd → Type 0
IsNextLine old new before now (Ok next.Whole) = ReadsShort old new before now new.line.items
IsNextLine old new before now (Ok next.Long) = (line : List ℕ) × ReadsLine old new before now line × (MAX_LINE_BYTES < length line)
IsNextLine old new before now (Ok next.Cut) = ReadsCut old new before now
IsNextLine old new before now (Ok next.End) = ReadsEnd old new before now
IsNextLine old new before now (Err ReadFault) = ReadsNoLine old before now
IsNextLine old new before now (Err end) = (taken : List ℕ) × Consumes before now taken

-- the number of the line that follows: one more, and at most 2^64 - 1
abbrev pub next_number : ℕ → ℕ
next_number n = min (n + 1) (2 ^ 64 - 1)

-- the outcome of a line with its line feed, and of a source that has ended behind a part of a line
abbrev pub whole_of : Bool → NextLine
whole_of true = next.Long
whole_of false = next.Whole

abbrev pub ended_as : Bool → List ℕ → NextLine
ended_as true line = next.Cut
ended_as false [] = next.End
ended_as false (b ∷ bytes) = next.Cut
