-- The output and the exit status of the program `nmgc_trace`, as `nmgc_trace_checker::nmgc_trace` promises them.
--
-- Each argument gets an answer and a status, in order; the program's status is the gravest of all. Faults of the code, and the
-- definition that each breaks:
--
-- - The last trace's status, in place of the gravest. After a trace that is refused (rank 1) one passes (rank 0): `IsGravest`.
-- - Status 2 for a trace that passes: `IsResult` gives it Passed, and the number of Passed is 0.
-- - The answers yes and no exchanged, or another sentence for a reason: `why_text` has the text of each reason.
-- - `no` in place of `ok`, or `ok` for a line that was refused or isn't empty, or none: `said_is` of `IsWatchedBy`.
-- - `line 110` in place of `line 11`, or the next line: `report_text` and `verdict_text` print the outcome's number. By
--   `IsReport` or `IsVerdict` it is the number of the first line that can't happen.
-- - The output on standard error: nothing is written there unless the output failed (`silent` of `Ran`).
-- - Always `no memory`: no clause refuses it. Always `can't be read`: none, since the kit's readers count no faults. Tests do.
-- - Another number of dues, or another reason of several: `dues_are` of `IsWatchedBy`, and `IsWhy` has one reason at most.
-- - No text beside the line since which a name is due, or another line's: `IsSince`. Other words of an error: rows refuse these.
use Rattle.std.specs.Prelude.{◌≡◌, ◌⊎◌, ◌≤◌, ℕ, List, [], ◌∷◌, ◌++◌, map, codes, string_bytes, Option, Result, Ok, Err, Bool, Contains, if◌then◌else◌}
use Rattle.std.specs.{Str.bytes_eq, Io.KnownBytes.Appends}
use Rattle.nmgc_io.specs.Text.{AppendsFront}
use Rattle.nmgc_arguments.specs.Output.{IsWritten}
use Rattle.nmgc_trace_checker.specs.{declared.program.Arguments.Arguments, declared.reading.Outcome.Outcome, declared.reading.TraceFault.TraceFault, declared.status.Status.Status, Outcomes.IsFault, Outcomes.IsHeard, Outcomes.IsOutcome, Outcomes.IsTooLong, Outcomes.is_passed_of, Said.texts_of, Sentences.outcome_text}
use Rattle.nmgc_trace_checker.specs.declared.program.Arguments.TheVariants as arguments
use Rattle.nmgc_trace_checker.specs.declared.reading.TraceFault.TheVariants as fault
use Rattle.nmgc_trace_checker.specs.declared.status.Status.TheVariants as status

-- STATUSES

-- the exit number of a status
abbrev pub number_of : Status → ℕ
number_of status.Passed = 0
number_of status.Refused = 2
number_of status.Unread = 3
number_of status.NoMemory = 7
number_of status.Usage = 64
number_of status.Unwritten = 1

-- how grave a status is
abbrev pub rank : Status → ℕ
rank status.Passed = 0
rank status.Refused = 1
rank status.Unread = 2
rank status.NoMemory = 3
rank status.Usage = 4
rank status.Unwritten = 5

-- the gravest of these statuses, or Passed if there are none: none of them is graver, so none is hidden by a later one
pub record IsGravest (statuses : List Status) (gravest : Status) : Type 0 where
  pub all : (one : Status) → Contains statuses one → rank one ≤ rank gravest
  pub among : (gravest ≡ status.Passed) ⊎ Contains statuses gravest

-- ONE ARGUMENT

-- the outcome of a trace, or the reason why there is none
abbrev pub Judged : Type 0
Judged = Result Outcome TraceFault

-- whether an argument is standard input that is answered while it is written
abbrev pub is_live : List ℕ → Bool
is_live name = bytes_eq name (codes "--live")

-- the trace was judged, with these answers while it came. Its bytes may be known
abbrev pub IsJudged : Option (List ℕ) → Bool → List ℕ → Judged → Type 0
IsJudged known is_asked said (Ok outcome) = IsOutcome known is_asked said outcome
IsJudged known is_asked said (Err f) = IsFault (IsTooLong texts_of known) f × IsHeard known is_asked said

-- the status of an outcome
abbrev pub status_of : Outcome → Status
status_of outcome = if is_passed_of outcome then status.Passed else status.Refused

-- the text and the status of a result. The words of an error can be any. A fault of the output has no text there
abbrev pub IsResult : Judged → List ℕ → Status → Type 0
IsResult (Ok outcome) text s = (text ≡ outcome_text outcome) × (s ≡ status_of outcome)
IsResult (Err fault.NoMemory) text s = (text ≡ codes "no memory") × (s ≡ status.NoMemory)
IsResult (Err (fault.Io error)) text s = ((words : List ℕ) × (text ≡ codes "can't be read: " ++ words)) × (s ≡ status.Unread)
IsResult (Err fault.TooLong) text s = (text ≡ codes "there are too many lines") × (s ≡ status.Refused)
IsResult (Err fault.Unwritten) text s = ⊥

-- the text and the status shown for a result: the result's, or `no memory` and its status, at any time
abbrev pub IsShown : Judged → List ℕ → Status → Type 0
IsShown judged text s = IsResult judged text s ⊎ IsResult (Err fault.NoMemory) text s

-- the label of an argument's line: the argument, a colon and a space; none for standard input that is answered
abbrev pub label_of : List ℕ → List ℕ
label_of name = if is_live name then [] else name ++ codes ": "

-- the answer to an argument, with its status: the answers while its trace came, and then its line, a label and a text
pub record IsAnswerTo (bytes : List ℕ → Option (List ℕ)) (name said : List ℕ) (s : Status) : Type 0 where
  pub judged : Judged
  pub live : List ℕ
  pub text : List ℕ
  pub is_judged : IsJudged (bytes name) (is_live name) live judged
  pub shown : IsShown judged text s
  pub said_is : said ≡ live ++ (label_of name ++ (text ++ codes "\n"))

-- ALL ARGUMENTS

-- the answers to arguments, in order, with their statuses
abbrev pub AreAnswered : (List ℕ → Option (List ℕ)) → List (List ℕ) → List ℕ → List Status → Type 0
AreAnswered bytes [] said [] = said ≡ []
AreAnswered bytes (name ∷ names) said (s ∷ ss) = (first : List ℕ) × (rest : List ℕ) × (said ≡ first ++ rest) × IsAnswerTo bytes name first s ×
    AreAnswered bytes names rest ss
AreAnswered bytes names said ss = ⊥

-- a whole output, with the statuses: an answer to each argument if there are some, and otherwise the possible arguments
abbrev pub SaysAll : (List ℕ → Option (List ℕ)) → List (List ℕ) → List ℕ → List Status → Type 0
SaysAll bytes [] said ss = (said ≡ codes "usage: nmgc_trace FILE.. | nmgc_trace --live\n") × (ss ≡ status.Usage ∷ [])
SaysAll bytes (name ∷ names) said ss = AreAnswered bytes (name ∷ names) said ss

-- a whole output for arguments that were given, or for the reason why there are none
abbrev pub SaysTo : (List ℕ → Option (List ℕ)) → Arguments → List ℕ → List Status → Type 0
SaysTo bytes (arguments.Given words) said ss = SaysAll bytes (map string_bytes words.items) said ss
SaysTo bytes arguments.NotText said ss = SaysAll bytes [] said ss
SaysTo bytes arguments.NoMemory said ss = (said ≡ codes "no memory\n") × (ss ≡ status.NoMemory ∷ [])

-- the whole program. A whole output was written, with the gravest of its statuses, and nothing on standard error (`silent`).
-- Or the output failed: a front of a whole output was written, and its count of faults rose. Then the status is Unwritten,
-- which is reported on standard error. Only the front counts: any answer can be `no memory`, so the rest can be anything
abbrev pub Ran : (List ℕ → Option (List ℕ)) → Arguments → Option (List ℕ) → Option (List ℕ) → Type 0 → Type 0 → Option (List ℕ) → Option (List ℕ) →
    Type 0 → Status → Type 0
Ran bytes given old new rose silent errors errors' errors_rose s = (said : List ℕ) × (statuses : List Status) × SaysTo bytes given said statuses ×
    ((IsGravest statuses s × Appends old new said × silent) ⊎ (AppendsFront old new said × rose ×
    IsWritten status.Unwritten errors errors' errors_rose status.Unwritten (codes "nmgc_trace: can't write\n") s))
