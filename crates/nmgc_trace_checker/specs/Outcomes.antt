-- The result for a trace that is read line by line, and the answers that are written while it comes. Some readers show
-- contracts their bytes, such as a slice in memory. Then the judged lines are the lines of these bytes. A file or a pipe shows
-- none, but the same code reads them.
use Rattle.std.specs.Prelude.{◌≡◌, ◌≢◌, ◌⊎◌, ◌≤◌, ◌+◌, ◌-◌, ◌^◌, ℕ, List, [], ◌∷◌, ◌++◌, length, take, codes, string_bytes, Option, Some, None, Bool, true, false, IfSome}
use Rattle.std.specs.{IoError.error_kind, declared.io.ErrorKind.TheVariants.OutOfMemory, Io.KnownBytes.Appends, List.flat_map, Option.option_map}
use Rattle.nmgc_io.specs.Text.{AppendsFront, next}
use Rattle.nmgc_barrier_checker.specs.declared.event.Event.{Event}
use Rattle.nmgc_barrier_checker.specs.declared.event.Event.TheVariants as event
use Rattle.nmgc_barrier_checker.specs.declared.event.Why.TheVariants as why
use Rattle.nmgc_trace_checker.specs.{declared.line.Line.Line, declared.meaning.Meaning.Meaning, declared.reading.Outcome.Outcome, declared.reading.TraceFault.TraceFault, declared.report.Begun.Begun, declared.report.Report.Report, declared.counts.Counts.Counts, declared.verdict.Verdict.Verdict, Kept.ListsKept, Reports.ComeDue, Reports.Comes, Reports.IsReport, Reports.is_whole, Said.texts_of, Said.ahead, Said.AreSaid, Said.Says, Said.SaysLine, Verdicts.IsVerdict, Verdicts.is_passed, Whole.IsWholeReport}
use Rattle.nmgc_field_reader.specs.{declared.counts.FieldCounts.FieldCounts, declared.report.FieldReport.FieldReport, FieldTraces.FieldTrace, FieldTraces.IsFieldReport, FieldTraces.nothing_yet}
use Rattle.nmgc_field_reader.specs.FieldTraces.{Comes as FieldsCome, is_refused as is_refused_field, is_whole as is_whole_field}
use Rattle.nmgc_field_reader.specs.FieldWhole.{IsWholeReport as IsWholeFieldReport}
use Rattle.nmgc_field_reader.specs.declared.report.FieldReport.TheVariants as fields
use Rattle.nmgc_trace_checker.specs.declared.meaning.Meaning.TheVariants as meaning
use Rattle.nmgc_trace_checker.specs.declared.report.Begun.TheVariants as begun
use Rattle.nmgc_trace_checker.specs.declared.report.Refusal.TheVariants as refusal
use Rattle.nmgc_trace_checker.specs.declared.reading.Outcome.TheVariants as outcome
use Rattle.nmgc_trace_checker.specs.declared.reading.TraceFault.TheVariants as fault
use Rattle.nmgc_trace_checker.specs.declared.report.Report.TheVariants as report
use Rattle.nmgc_trace_checker.specs.declared.verdict.Verdict.TheVariants as verdict

-- whether a line of format 2 was refused
abbrev pub is_refused : Report → Bool
is_refused (report.Refused n r) = true
is_refused r = false

-- whether a line of format 1 was refused
abbrev pub is_refused_there : Verdict → Bool
is_refused_there (verdict.Bad n) = true
is_refused_there (verdict.Refused n) = true
is_refused_there v = false

-- COUNTS

-- the counts before the first line
abbrev pub no_counts : Counts
no_counts = record { cycles = 0; commands = 0; pushes = 0 }

-- the counts after an event. A close adds a cycle. A command, a copy, a fill, or a value handed over adds a command. A push
-- adds a push. Each count stops at 2^64 - 1
abbrev pub with_event : Counts → Event → Counts
with_event c (event.Given m k answer) = record c { commands = next c.commands }
with_event c (event.Rows m borrowed ks) = record c { commands = next c.commands }
with_event c (event.Hand k answer) = record c { commands = next c.commands }
with_event c (event.Push name) = record c { pushes = next c.pushes }
with_event c event.Close = record c { cycles = next c.cycles }
with_event c (event.CloseWith names) = record c { cycles = next c.cycles }
with_event c e = c

-- the counts after a line: only events count
abbrev pub with_line : Counts → Meaning → Counts
with_line c (meaning.Event e) = with_event c e
with_line c t = c

-- the counts after these lines
abbrev pub with_lines : Counts → List Meaning → Counts
with_lines c [] = c
with_lines c (t ∷ ts) = with_lines (with_line c t) ts

-- FORMAT 2

-- the head of a trace of format 2
abbrev pub head_texts : List (List ℕ)
head_texts = codes "trace 2" ∷ []

-- if the bytes are known, these texts are their first lines, and all of them unless a line was refused
abbrev pub AreLinesOf : Option (List ℕ) → List (List ℕ) → Bool → Type 0
AreLinesOf known texts refused = IfSome known (λ bytes. (left : List (List ℕ)) × (texts_of bytes ≡ texts ++ left) × (refused ≡ false → left ≡ []))

-- of the lines after the head, those that happened: the lines before the refused one, or all. Line 2 is the first
abbrev pub happened_of : {A : Type 0} → Report → List A → List A
happened_of (report.Refused n r) lines = take (n - 2) lines
happened_of r lines = lines

-- the answer to a line that happened: `ok` and a line feed for an empty line if answers are asked for, and otherwise nothing
abbrev pub ok_to : Bool → List ℕ → List ℕ
ok_to false text = []
ok_to true [] = codes "ok\n"
ok_to true (b ∷ bytes) = []

-- the answers to these lines
abbrev pub oks : Bool → List (List ℕ) → List ℕ
oks is_asked texts = flat_map (ok_to is_asked) texts

-- the line after the head with this number has this text; line 2 is the first
abbrev pub IsTextAt : List (List ℕ) → ℕ → List ℕ → Type 0
IsTextAt texts n text = (before : List (List ℕ)) × (after : List (List ℕ)) × (texts ≡ before ++ text ∷ after) × (n ≡ length before + 2)

-- the text beside a report: if a name is due, the text of the line since which it is, and otherwise none
abbrev pub IsSince : List (List ℕ) → Report → Option (List ℕ) → Type 0
IsSince texts (report.Refused n (refusal.Event (why.Due debt))) since = (text : List ℕ) × (since ≡ Some text) × IsTextAt texts debt.line text
IsSince texts r since = since ≡ None

-- the answer to the lines that these texts say, with the answers while they came: only an `ok` for each empty line that
-- happened. The lines that happened are counted, and how often a name came due in them
pub record IsWatchedBy (texts : List (List ℕ)) (is_asked : Bool) (said : List ℕ) (r : Report) (counts : Counts) (dues : ℕ) (since : Option (List ℕ)) :
    Type 0 where
  pub lines : List Meaning
  pub says : AreSaid Says texts lines []
  pub report_is : IsReport (meaning.Blank ∷ lines) r
  pub whole : IsWholeReport (meaning.Blank ∷ lines) r
  pub said_is : said ≡ oks is_asked (happened_of r texts)
  pub counts_are : counts ≡ with_lines no_counts (happened_of r lines)
  pub last : Begun
  pub dues_are : ComeDue 1 begun.Nothing (meaning.Blank ∷ happened_of r lines) 0 last dues
  pub since_is : IsSince texts r since

-- the answer to a trace of format 2, with the answers while it came. If the bytes are known, its lines are the lines of these
-- bytes, after this head
abbrev pub IsWatched : List (List ℕ) → Option (List ℕ) → Bool → List ℕ → Report → Counts → ℕ → Option (List ℕ) → Type 0
IsWatched head known is_asked said r counts dues since = (texts : List (List ℕ)) × AreLinesOf known (head ++ texts) (is_refused r) ×
    IsWatchedBy texts is_asked said r counts dues since

-- the answers to lines that happened: these texts say lines, and each can happen after the lines before it
pub record AreAnswers (texts : List (List ℕ)) (is_asked : Bool) (said : List ℕ) : Type 0 where
  pub lines : List Meaning
  pub says : AreSaid Says texts lines []
  pub last : Begun
  pub comes : Comes 1 begun.Nothing (meaning.Blank ∷ lines) last
  pub said_is : said ≡ oks is_asked texts

-- the answers while a trace came, up to a fault: those to the first lines after this head, or none before the first line
abbrev pub IsHeardUpTo : List (List ℕ) → Option (List ℕ) → Bool → List ℕ → Type 0
IsHeardUpTo head known is_asked said = (said ≡ []) ⊎ ((texts : List (List ℕ)) × AreLinesOf known (head ++ texts) true × AreAnswers texts is_asked said)

-- FORMAT 3

-- the head of a trace of format 3
abbrev pub field_head_texts : List (List ℕ)
field_head_texts = codes "trace 3" ∷ []

-- of the lines after the head, those that happened: the lines before the refused one, or all. Line 2 is the first
abbrev pub happened_in : FieldReport → List (List ℕ) → List (List ℕ)
happened_in (fields.Refused n r) lines = take (n - 2) lines
happened_in r lines = lines

-- the answer to these lines of format 3, with the answers while they came: only an `ok` for each empty line that happened. The
-- lines that happened are counted, and how often something came due in them
pub record AreFieldsBy (texts : List (List ℕ)) (is_asked : Bool) (said : List ℕ) (r : FieldReport) (counts : FieldCounts) (dues : ℕ) : Type 0 where
  pub report_is : IsFieldReport texts r counts dues
  pub whole : IsWholeFieldReport texts r
  pub said_is : said ≡ oks is_asked (happened_in r texts)

-- the answer to a trace of format 3, with the answers while it came. If the bytes are known, its lines are the lines of these
-- bytes, after this head
abbrev pub AreFields : List (List ℕ) → Option (List ℕ) → Bool → List ℕ → FieldReport → FieldCounts → ℕ → Type 0
AreFields head known is_asked said r counts dues = (texts : List (List ℕ)) × AreLinesOf known (head ++ texts) (is_refused_field r) ×
    AreFieldsBy texts is_asked said r counts dues

-- the answers to lines of format 3 that happened, each after the lines before it
pub record AreFieldAnswers (texts : List (List ℕ)) (is_asked : Bool) (said : List ℕ) : Type 0 where
  pub last : FieldTrace
  pub comes : FieldsCome 2 nothing_yet texts last
  pub said_is : said ≡ oks is_asked texts

-- the answers while a trace of format 3 came, up to a fault: those to the first lines after this head, or none before the first
abbrev pub AreFieldsHeard : List (List ℕ) → Option (List ℕ) → Bool → List ℕ → Type 0
AreFieldsHeard head known is_asked said = (said ≡ []) ⊎ ((texts : List (List ℕ)) × AreLinesOf known (head ++ texts) true × AreFieldAnswers texts is_asked said)

-- the answers while a trace of either format came, up to a fault
abbrev pub IsHeard : Option (List ℕ) → Bool → List ℕ → Type 0
IsHeard known is_asked said = IsHeardUpTo head_texts known is_asked said ⊎ AreFieldsHeard field_head_texts known is_asked said

-- FORMAT 1

-- the lines of format 1 that the texts say, in order: of all texts or, if the verdict refuses a line, up to that line
pub record AreMarkedLines (texts : List (List ℕ)) (lines : List Line) (v : Verdict) : Type 0 where
  pub left : List (List ℕ)
  pub said : AreSaid SaysLine texts lines left
  pub all : is_refused_there v ≡ false → left ≡ []

-- the verdict on a trace of format 1: on its first line, if any, which was read, and on the lines of the bytes left, if known
abbrev pub IsMarked : Option (List ℕ) → Bool → List ℕ → Verdict → Type 0
IsMarked known is_there line v = (lines : List Line) × IfSome known (λ rest. AreMarkedLines (ahead is_there line rest) lines v) ×
    IsVerdict lines v × ListsKept lines v

-- the judged lines of known bytes in format 1, without a head: the texts say them in order, all or up to the refused line
pub record IsMarkedOf (bytes : List ℕ) (lines : List Line) (v : Verdict) : Type 0 where
  pub no_head : (texts : List (List ℕ)) → texts_of bytes ≡ codes "trace 2" ∷ texts → ⊥
  pub no_field_head : (texts : List (List ℕ)) → texts_of bytes ≡ codes "trace 3" ∷ texts → ⊥
  pub meaning : AreMarkedLines (texts_of bytes) lines v

-- OUTCOMES

-- an outcome that is true of some lines, with the answers while they came; in format 1 there are none. If the reader's bytes
-- are known, these are the lines that the bytes say
abbrev pub IsOutcome : Option (List ℕ) → Bool → List ℕ → Outcome → Type 0
IsOutcome known is_asked said (outcome.Marked v) = (lines : List Line) × IfSome known (λ bytes. IsMarkedOf bytes lines v) × IsVerdict lines v ×
    ListsKept lines v × (said ≡ [])
IsOutcome known is_asked said (outcome.Watched answer) =
    IsWatched head_texts known is_asked said answer.report answer.counts answer.dues (option_map string_bytes answer.since)
IsOutcome known is_asked said (outcome.Fields answer) = AreFields field_head_texts known is_asked said answer.report answer.counts answer.dues

-- whether a trace passes: each line can happen, and the trace is whole or, in format 1, marking has ended
abbrev pub is_passed_of : Outcome → Bool
is_passed_of (outcome.Marked verdict) = is_passed verdict
is_passed_of (outcome.Watched answer) = is_whole answer.report
is_passed_of (outcome.Fields answer) = is_whole_field answer.report

-- a fault of the trace, the reason why there is no outcome. There was no memory, or the trace couldn't be read for another
-- cause. Or the trace is too long, and then `long` holds
abbrev pub IsFault : Type 0 → TraceFault → Type 0
IsFault long fault.NoMemory = Unit {0}
IsFault long (fault.Io error) = error_kind error ≢ OutOfMemory
IsFault long fault.TooLong = long
IsFault long fault.Unwritten = ⊥

-- the answers up to a fault were written: whole, or a front of them if the output is the fault, and its count rose
abbrev pub IsFaultAfter : Type 0 → Option (List ℕ) → Option (List ℕ) → Type 0 → List ℕ → TraceFault → Type 0
IsFaultAfter long old new rose said f = (IsFault long f × Appends old new said) ⊎ ((f ≡ fault.Unwritten) × AppendsFront old new said × rose)

-- if the reader's bytes are known, they have 2^64 - 2 lines (`texts`) or more
abbrev pub IsTooLong : (List ℕ → List (List ℕ)) → Option (List ℕ) → Type 0
IsTooLong texts known = IfSome known (λ bytes. 2 ^ 64 - 2 ≤ length (texts bytes))
