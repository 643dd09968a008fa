-- The head of a session: its lines up to `begin`, and the faults of a line there.
use Rattle.std.specs.Prelude.{ℕ, ◌≡◌, ◌≢◌, ◌+◌, ◌<◌, ◌≤◌, ◌⊎◌, ◌++◌, List, [], codes, length, All, Bool, true, false, Option}
use Rattle.std.specs.Io.KnownBytes.{Consumes, IsAtEnd}
use Rattle.nmgc_world_spec.specs.declared.command.Command.{Command}
use Rattle.nmgc_io.specs.Text.{is_blank_or_comment, lines_of}
use Rattle.nmgc_script.specs.{Parts.end_of, Spelling.IsFaultOfText, Spelling.Spells, Spelling.kept_lines, Spelling.version_3, declared.fault.Cause.Cause, declared.script.Script.Script}
use Rattle.nmgc_script.specs.declared.fault.Cause.TheVariants as cause
use Rattle.nmgc_run_laws.specs.Limits.{FitsRun}
use Rattle.nmgc_live.specs.Lines.{ReadsCut, ReadsLine, ReadsShort, ReadsNoLine, fed, next_number, unread}
use Rattle.nmgc_live.specs.declared.{refusal.Fault.Fault, refusal.Refusal.Refusal, lines.LineReader.LineReader, head.HeadLine.HeadLine, lines.TheConstants.MAX_LINE_BYTES, head.TheConstants.MAX_HEAD_BYTES}
use Rattle.nmgc_live.specs.declared.refusal.Fault.TheVariants as fault
use Rattle.nmgc_live.specs.declared.refusal.Refusal.TheVariants as no
use Rattle.nmgc_live.specs.declared.head.HeadLine.TheVariants as head

-- no program of a script has commands
abbrev pub HasNoCommands : Script → Type 0
HasNoCommands script = All (λ (program : List Command). program ≡ []) script.threads

-- the bytes spell the head of a session: a script of version 3, whose mutators have no commands
pub record IsHead (bytes : List ℕ) (script : Script) : Type 0 where
  pub spells : Spells bytes script
  pub version : script.version ≡ version_3.number
  pub limits : FitsRun script
  pub empty : HasNoCommands script

-- the lines of a head that are kept, with one line more: empty lines and comments aren't kept
abbrev pub kept_if : Bool → List ℕ → List ℕ → List ℕ
kept_if true text line = text
kept_if false text line = text ++ fed line

abbrev pub with_line : List ℕ → List ℕ → List ℕ
with_line text line = kept_if (is_blank_or_comment line) text line

-- a text spells no script: its first bad line has this cause
abbrev pub HasBadLine : List ℕ → Cause → Type 0
HasBadLine text c = (n : ℕ) × IsFaultOfText (end_of text) (kept_lines text) n c

-- the same, and the bad line is a line of the text: no line is missing behind it
abbrev pub HasBadLineWithin : List ℕ → Cause → Type 0
HasBadLineWithin text c = (n : ℕ) × IsFaultOfText (end_of text) (kept_lines text) n c × (n ≤ length (lines_of text))

-- a text spells a script that is no head of a session
abbrev pub SpellsOther : List ℕ → Type 0
SpellsOther text = (script : Script) × Spells text script × (IsHead text script → ⊥)

-- a line of the head has to be kept: it is neither empty nor a comment nor `begin`
abbrev pub HasToBeKept : List ℕ → Type 0
HasToBeKept line = (is_blank_or_comment line ≡ false) × (line ≢ codes "begin")

-- a text may go on to a head: it spells a script without commands, or a script's first bad line is behind all its lines
abbrev pub IsHeadSoFar : List ℕ → Type 0
IsHeadSoFar text = ((script : Script) × Spells text script × HasNoCommands script) ⊎
    ((n : ℕ) × ((c : Cause) × IsFaultOfText (end_of text) (kept_lines text) n c × (length (lines_of text) < n)))

-- a line of the head is good behind these lines: it is empty or a comment, or the head may go on from it. The first line is `nmgc 3`
abbrev pub IsGoodInHead : List ℕ → List ℕ → Type 0
IsGoodInHead text line = (is_blank_or_comment line ≡ true) ⊎
    (HasToBeKept line × (text ≡ [] → line ≡ codes "nmgc 3") × IsHeadSoFar (text ++ fed line))

-- `begin` is bad behind these lines, for this cause: they are no head
abbrev pub IsBadBegin : List ℕ → Cause → Type 0
IsBadBegin text c = HasBadLine text c ⊎ ((c ≡ cause.Thread) × SpellsOther text)

-- a line that has to be kept is bad behind these lines, for this cause. The first line has to be `nmgc 3`. Any line is bad if it is
-- a script's first bad line, or a command
abbrev pub IsBadScriptLine : List ℕ → List ℕ → Cause → Type 0
IsBadScriptLine text line c = ((c ≡ cause.Version) × (text ≡ []) × (line ≢ codes "nmgc 3")) ⊎
    (HasBadLineWithin (text ++ fed line) c ⊎ ((c ≡ cause.Thread) × SpellsOther (text ++ fed line)))

-- a line of the head is bad for this fault, behind the lines that were kept. A line is too long by itself, or a line that has to be
-- kept is too long for the head
abbrev pub IsBadInHead : List ℕ → List ℕ → Fault → Type 0
IsBadInHead text line (fault.Script c) = ((line ≡ codes "begin") × IsBadBegin text c) ⊎ (HasToBeKept line × IsBadScriptLine text line c)
IsBadInHead text line fault.Line = (MAX_LINE_BYTES < length line) ⊎ (HasToBeKept line × (MAX_HEAD_BYTES ≤ length text + length line))
IsBadInHead text line fault.TooMany = ⊥

-- the cause for which an input may not end behind these lines of the head: a line is missing, which may be `begin`
abbrev pub IsEndCause : List ℕ → Cause → Type 0
IsEndCause text c = HasBadLine text c ⊎ ((c ≡ cause.Thread) × ((script : Script) × Spells text script))

-- the line `begin` was judged so, behind these lines
abbrev pub IsBegin : List ℕ → HeadLine → Type 0
IsBegin text head.More = ⊥
IsBegin text (head.Begun script) = IsHead text script
IsBegin text (head.Bad f) = IsBadInHead text (codes "begin") f

-- a line of the head was judged so, and was kept if it is good
abbrev pub IsHeadLine : List ℕ → List ℕ → List ℕ → HeadLine → Type 0
IsHeadLine old new line head.More = (new ≡ with_line old line) × IsGoodInHead old line
IsHeadLine old new line (head.Begun script) = (new ≡ old) × (line ≡ codes "begin") × IsHead old script
IsHeadLine old new line (head.Bad f) = (new ≡ old) × IsBadInHead old line f

-- a line of the head was read and judged so
abbrev pub IsNextHeadLine : LineReader → LineReader → Option (List ℕ) → Option (List ℕ) → List ℕ → List ℕ → HeadLine → Type 0
IsNextHeadLine before now left_old left_new old new head.More = (line : List ℕ) × ReadsShort before now left_old left_new line ×
    (new ≡ with_line old line) × IsGoodInHead old line
IsNextHeadLine before now left_old left_new old new (head.Begun script) = ReadsLine before now left_old left_new (codes "begin") × IsHead old script
IsNextHeadLine before now left_old left_new old new (head.Bad f) = (new ≡ old) × (((line : List ℕ) × ReadsLine before now left_old left_new line ×
    IsBadInHead old line f) ⊎ ((f ≡ fault.Line) × ReadsCut before now left_old left_new))

-- the refusal of an input that ended in the head, at the line behind the last
abbrev pub IsEndRefusal : List ℕ → ℕ → Refusal → Type 0
IsEndRefusal text line (no.Bad n f) = (n ≡ line) × ((c : Cause) × (f ≡ fault.Script c) × IsEndCause text c)
IsEndRefusal text line no.NoMemory = Unit {0}
IsEndRefusal text line _ = ⊥

-- no line of the head was read: the source failed, there was no memory, or the input ended
abbrev pub IsNoHeadLine : LineReader → Option (List ℕ) → Option (List ℕ) → List ℕ → Refusal → Type 0
IsNoHeadLine before left_old left_new text no.ReadFault = ReadsNoLine before left_old left_new
IsNoHeadLine before left_old left_new text no.NoMemory = (taken : List ℕ) × Consumes left_old left_new taken
IsNoHeadLine before left_old left_new text no.WriteFault = ⊥
IsNoHeadLine before left_old left_new text (no.Bad n f) = (n ≡ next_number before.number) × ((c : Cause) × (f ≡ fault.Script c) × IsEndCause text c) ×
    Consumes left_old left_new [] × (unread before ≡ []) × IsAtEnd left_new
