-- The program: its tasks, its answers with their status and text, and the output.
use Rattle.std.specs.Io.KnownBytes.{Consumes, IsAtEnd, Keeps}
use Rattle.std.specs.List.{flat_map}
use Rattle.std.specs.Prelude.{Err, List, None, Ok, Option, Result, Some, [], codes, decimal, length, ℕ, ◌++◌, ◌+◌, ◌<◌, ◌∷◌, ◌≡◌, ◌≢◌, ◌≤◌, ◌⊎◌}
use Rattle.nmgc_limits.specs.Limits.{most_script_bytes}
use Rattle.nmgc_world_spec.specs.{Reach.IsReached, Reach.IsRoot, Reach.Lists, World.shared_name, declared.value.Name.Name}
use Rattle.nmgc_io.specs.Text.{Takes, TakesUpTo, ended, lines_of}
use Rattle.nmgc_script.specs.Spelling.{IsFaultOfText, IsInLimits, Spells, bench_script, kept_lines, most_bytes, script_lines, upgraded}
use Rattle.nmgc_script.specs.{declared.bench.TheConstants.MAX_BATCHES, declared.fault.Cause.Cause, declared.script.Script.Script}
use Rattle.nmgc_script.specs.declared.fault.Cause.TheVariants as cause
use Rattle.nmgc_arguments.specs.Output.{ArePassed, IsWritten, text_bytes}
use Rattle.nmgc_object.specs.Words.{IsName}
use Rattle.nmgc_journal.specs.Text.{count_line, end_text, name_line, name_text, report_text, summary_text}
use Rattle.nmgc_journal.specs.{declared.report.End.End, declared.report.Report.Report}
use Rattle.nmgc_journal.specs.declared.report.End.TheVariants as end
use Rattle.nmgc_image.specs.{Image.IsFirstBad, Image.Shows, declared.read.TheConstants.MAX_IMAGE_BYTES}
use Rattle.nmgc_image.specs.Image as spelling
use Rattle.nmgc_image.specs.declared.image.Image as shown
use Rattle.nmgc_retain.specs.{Paths.IsRight, Paths.retained_text, declared.path.Retained.Retained}
use Rattle.nmgc_run_spec.specs.{Lawful.IsLawful, Lawful.IsRunOf, Run.last_state}
use Rattle.nmgc_pmark.specs.declared.crew.TheConstants.{MOST_MARKERS}
use Rattle.nmgc_cli.specs.declared.status.Status.TheVariants.{BadImage, BadScript, Done, HeapFull, NoMemory, ReadFault, TooLong, Usage, WriteFault}
use Rattle.nmgc_cli.specs.declared.task.Task.TheVariants.{Bench, Image, Marks, Retain, Run, Upgrade}
use Rattle.nmgc_cli.specs.{declared.answer.Refusal.Refusal, declared.output.Output.Output, declared.status.Status.Status, declared.task.Task.Task}
use Rattle.nmgc_cli.specs.declared.answer.Refusal.TheVariants as no

-- the arguments ask for this task
abbrev pub Asks : List (List ℕ) → Task → Type 0
Asks arguments Run = arguments ≡ codes "run" ∷ []
Asks arguments (Bench batches) = (arguments ≡ codes "bench" ∷ decimal batches ∷ []) × ((1 ≤ batches) × (batches ≤ MAX_BATCHES))
Asks arguments Upgrade = arguments ≡ codes "upgrade" ∷ []
Asks arguments Image = arguments ≡ codes "image" ∷ []
Asks arguments (Retain name) = (arguments ≡ codes "retain" ∷ name_text name ∷ []) × IsName name
Asks arguments (Marks markers) = (arguments ≡ codes "marks" ∷ decimal markers ∷ []) × ((1 ≤ markers) × (markers ≤ MOST_MARKERS))

-- wrong arguments: they ask for no task
abbrev pub IsWrong : List (List ℕ) → Type 0
IsWrong arguments = (task : Task) → Asks arguments task → ⊥

-- an answer: the output of a task that was done (a status, the report if a script was run, and a text), or the refusal
abbrev pub Answer : Type 0
Answer = Result Output Refusal

-- the status of a refusal
abbrev pub refusal_status : Refusal → Status
refusal_status no.Usage = Usage
refusal_status no.ReadFault = ReadFault
refusal_status no.TooLong = TooLong
refusal_status (no.Bad line c) = BadScript
refusal_status (no.BadImage line) = BadImage
refusal_status no.NoMemory = NoMemory

-- the token of a cause
abbrev pub cause_text : Cause → List ℕ
cause_text cause.Version = codes "version"
cause_text cause.Heap = codes "heap"
cause_text cause.Thread = codes "thread"
cause_text cause.Total = codes "total"
cause_text cause.Command = codes "command"
cause_text cause.Arity = codes "arity"
cause_text cause.Operand = codes "operand"
cause_text cause.Size = codes "size"

-- the text of a refusal
abbrev pub refusal_text : Refusal → List ℕ
refusal_text no.Usage = codes "usage: nmgc run | nmgc bench N | nmgc upgrade | nmgc image | nmgc retain NAME | nmgc marks N | nmgc live [-k|-t]\n"
refusal_text no.ReadFault = codes "read fault\n"
refusal_text no.TooLong = codes "too long\n"
refusal_text (no.Bad line c) = codes "bad line " ++ decimal line ++ 32 ∷ cause_text c ++ 10 ∷ []
refusal_text (no.BadImage line) = count_line (codes "bad image line ") line
refusal_text no.NoMemory = codes "no memory\n"

-- the status of an answer
abbrev pub answer_status : Answer → Status
answer_status (Ok output) = output.status
answer_status (Err refusal) = refusal_status refusal

-- the report of an answer, if a script was run
abbrev pub answer_report : Answer → Option Report
answer_report (Ok output) = output.report
answer_report (Err refusal) = None

-- the text of an answer
abbrev pub answer_text : Answer → List ℕ
answer_text (Ok output) = text_bytes output.text
answer_text (Err refusal) = refusal_text refusal

-- the script was run: it is within the limits, and the report is a report of a run of it
pub record IsRan (script : Script) (report : Report) : Type 0 where
  pub limits : IsInLimits script
  pub run : IsRunOf script report

-- the exit number of each status, with which the process ends
abbrev pub number_of : Status → ℕ
number_of Done = 0
number_of Usage = 2
number_of ReadFault = 3
number_of WriteFault = 4
number_of BadScript = 5
number_of TooLong = 5
number_of HeapFull = 6
number_of NoMemory = 7
number_of BadImage = 9

-- the status of a run with this end
abbrev pub status_of : End → Status
status_of end.Done = Done
status_of (end.HeapFull free reserve) = HeapFull

-- the lines of marked names: the number of markers, the number of names reached, each of the names, and the end of the run
abbrev pub marks_lines : ℕ → List Name → End → List ℕ
marks_lines markers names end = count_line (codes "marks ") markers ++ count_line (codes "reached ") (length names) ++ flat_map (name_line []) names ++ end_text end

-- the text has the lines of these names, in order. They are all names except g that strong fields reach in the last world, from
-- its registers and queues and from the slots of g
pub record IsMarksOf (markers : ℕ) (script : Script) (report : Report) (lawful : IsLawful script report) (text : List ℕ) : Type 0 where
  pub names : List Name
  pub reached : Lists (λ name. IsReached (last_state lawful.run).world (IsRoot (last_state lawful.run).world) name × (name ≢ shared_name)) names
  pub text_is : text ≡ marks_lines markers names report.end

-- the text of `marks N`: the last world's marked names, for each script within the limits that makes the report lawful
abbrev pub IsMarksText : ℕ → Report → List ℕ → Type 0
IsMarksText markers report text = (script : Script) → IsInLimits script → (lawful : IsLawful script report) → IsMarksOf markers script report lawful text

-- all bytes left in a source were read, and they are at most `limit` bytes
pub record IsReadWithin (limit : ℕ) (old new : Option (List ℕ)) (bytes : List ℕ) : Type 0 where
  pub taken : Consumes old new bytes
  pub end : IsAtEnd new
  pub within : length bytes ≤ limit

-- the bytes spell an image, and the output has the text of a right answer for this name in this image
pub record IsPathOf (name : Name) (bytes : List ℕ) (output : Output) : Type 0 where
  pub image : shown.Image
  pub spells : spelling.Spells bytes image
  pub answer : Retained
  pub right : IsRight image name answer
  pub text : text_bytes output.text ≡ retained_text answer
  pub status : output.status ≡ Done
  pub none : output.report ≡ None

-- the bytes spell this script, and no other, and are no more than its version allows (`most_bytes`)
pub record SpellsOnly (bytes : List ℕ) (script : Script) : Type 0 where
  pub short : length bytes ≤ most_bytes bytes
  pub spells : Spells bytes script
  pub only : (other : Script) → Spells bytes other → other ≡ script

-- the bytes are no more than their version line allows, and spell no script; this is the first bad line, with its cause
pub record SpellsNone (bytes : List ℕ) (line : ℕ) (c : Cause) : Type 0 where
  pub short : length bytes ≤ most_bytes bytes
  pub none : (script : Script) → Spells bytes script → ⊥
  pub fault : IsFaultOfText (1 + length (lines_of bytes)) (kept_lines bytes) line c

-- the output is `Done`, with the plain spelling of the script's upgrade and no report
pub record IsUpgraded (script : Script) (output : Output) : Type 0 where
  pub text : text_bytes output.text ≡ ended (script_lines (upgraded script))
  pub status : output.status ≡ Done
  pub none : output.report ≡ None

-- the answer to a script's bytes: a refusal with its cause, or a result by `Gives` (a run's report, or an upgrade's output)
abbrev pub AnswersBytes : {X : Type 0} → (Script → X → Type 0) → List ℕ → Result X Refusal → Type 0
AnswersBytes Gives bytes (Ok given) = (script : Script) × SpellsOnly bytes script × Gives script given
AnswersBytes Gives bytes (Err (no.Bad line c)) = SpellsNone bytes line c
AnswersBytes Gives bytes (Err no.TooLong) = most_bytes bytes < length bytes
AnswersBytes Gives bytes (Err no.NoMemory) = Unit {0}
AnswersBytes Gives bytes (Err _) = ⊥

-- the answer of a task whose source may have `limit` bytes, answered by `OfBytes`. `rose`: the source's count of faults rose
abbrev pub AnswersRead : {X : Type 0} → ℕ → (List ℕ → Result X Refusal → Type 0) → Option (List ℕ) → Option (List ℕ) → Type 0 → Result X Refusal → Type 0
AnswersRead limit OfBytes old new rose (Err no.ReadFault) = TakesUpTo old new limit × rose
AnswersRead limit OfBytes old new rose (Err no.NoMemory) = TakesUpTo old new limit
AnswersRead limit OfBytes old new rose (Err no.TooLong) =
    Takes old new (limit + 1) ⊎ ((bytes : List ℕ) × IsReadWithin limit old new bytes × OfBytes bytes (Err no.TooLong))
AnswersRead limit OfBytes old new rose answer = (bytes : List ℕ) × IsReadWithin limit old new bytes × OfBytes bytes answer

-- the answer of a task that reads a script
abbrev pub AnswersScript : {X : Type 0} → (Script → X → Type 0) → Option (List ℕ) → Option (List ℕ) → Type 0 → Result X Refusal → Type 0
AnswersScript Gives = AnswersRead most_script_bytes (AnswersBytes Gives)

-- the output for a report: the report itself, the status of its end, and a text with property T
pub record IsOutputOfReport (T : Report → List ℕ → Type 0) (report : Report) (output : Output) : Type 0 where
  pub status : output.status ≡ status_of report.end
  pub report_is : output.report ≡ Some report
  pub text : T report (text_bytes output.text)

-- the answer to a task that makes a report: the output for the report, or the reason why there is none
abbrev pub AnswersWithReport : (Report → List ℕ → Type 0) → (Result Report Refusal → Type 0) → Answer → Type 0
AnswersWithReport T A (Ok output) = (report : Report) × A (Ok report) × IsOutputOfReport T report output
AnswersWithReport T A (Err refusal) = A (Err refusal)

-- the text of `run` for its report: the whole report
abbrev pub IsText : Report → List ℕ → Type 0
IsText report text = text ≡ report_text report

-- the text of a bench with this number of batches for its report: the summary
abbrev pub IsSummary : ℕ → Report → List ℕ → Type 0
IsSummary batches report text = text ≡ summary_text batches report

-- the text of `image` for its report: the spelling of the image that shows the last world of the run
abbrev pub IsImageText : Report → List ℕ → Type 0
IsImageText report text = (script : Script) → IsInLimits script → (run : IsRunOf script report) →
    (image : shown.Image) × Shows (last_state run.lawful.run).world image × spelling.Spells text image

-- the answer of `retain NAME` to an image's bytes: the text of a right answer, or the first bad line, or `NoMemory`
abbrev pub AnswersImage : Name → List ℕ → Answer → Type 0
AnswersImage name bytes (Ok output) = IsPathOf name bytes output
AnswersImage name bytes (Err (no.BadImage line)) = IsFirstBad bytes line
AnswersImage name bytes (Err no.NoMemory) = Unit {0}
AnswersImage name bytes (Err _) = ⊥

-- the answer to a bench with this number of batches: the report is a report of a run of the bench's script
abbrev pub AnswersBench : ℕ → Result Report Refusal → Type 0
AnswersBench batches (Ok report) = IsRunOf (bench_script batches) report
AnswersBench batches (Err no.NoMemory) = Unit {0}
AnswersBench batches (Err _) = ⊥

-- the answer to a task: a bench reads nothing, and for an upgrade a script is read as for a run
abbrev pub Answers : Task → Option (List ℕ) → Option (List ℕ) → Type 0 → Answer → Type 0
Answers Run old new rose answer = AnswersWithReport IsText (AnswersScript IsRan old new rose) answer
Answers (Bench batches) old new rose answer = Keeps old new × AnswersWithReport (IsSummary batches) (AnswersBench batches) answer
Answers Upgrade old new rose answer = AnswersScript IsUpgraded old new rose answer
Answers Image old new rose answer = AnswersWithReport IsImageText (AnswersScript IsRan old new rose) answer
Answers (Retain name) old new rose answer = AnswersRead MAX_IMAGE_BYTES (AnswersImage name) old new rose answer
Answers (Marks markers) old new rose answer = AnswersWithReport (IsMarksText markers) (AnswersScript IsRan old new rose) answer

-- an answer to these arguments, with its cause. It is `Usage` exactly if they are wrong, and then nothing is read
abbrev pub IsAnswer : List (List ℕ) → Option (List ℕ) → Option (List ℕ) → Type 0 → Answer → Type 0
IsAnswer arguments old new rose (Err no.Usage) = IsWrong arguments × Keeps old new
IsAnswer arguments old new rose answer = (task : Task) × Asks arguments task × Answers task old new rose answer

-- an answer was written, and these are the resulting status and report
pub record Ends (old new : Option (List ℕ)) (rose : Type 0) (answer : Answer) (status : Status) (report : Option Report) : Type 0 where
  pub report_of : report ≡ answer_report answer
  pub written : IsWritten WriteFault old new rose (answer_status answer) (answer_text answer) status

-- a report of `run`: the bytes left were read and spell one script; the report is lawful for this script, and the report's text was written
pub record IsReportOfRun (arguments : List (List ℕ)) (left left' taken taken' : Option (List ℕ)) (rose : Type 0) (status : Status) (report : Report) : Type 0 where
  pub asked : Asks arguments Run
  pub bytes : List ℕ
  pub read : IsReadWithin most_script_bytes left left' bytes
  pub script : Script
  pub spells : SpellsOnly bytes script
  pub lawful : IsLawful script report
  pub written : IsWritten WriteFault taken taken' rose (status_of report.end) (report_text report) status

-- a report of `bench N`: nothing was read, the report is lawful for the bench's script, and the report's summary was written
pub record IsReportOfBench (arguments : List (List ℕ)) (left left' taken taken' : Option (List ℕ)) (rose : Type 0) (status : Status) (report : Report) :
    Type 0 where
  pub batches : ℕ
  pub asked : Asks arguments (Bench batches)
  pub unread : Keeps left left'
  pub lawful : IsLawful (bench_script batches) report
  pub written : IsWritten WriteFault taken taken' rose (status_of report.end) (summary_text batches report) status

-- a report of `run` or `bench N`. For `image` or `marks N` it says only that the arguments ask for it: `IsAnswer` and `Ends` have
-- the rest
abbrev pub IsReport : List (List ℕ) → Option (List ℕ) → Option (List ℕ) → Option (List ℕ) → Option (List ℕ) → Type 0 → Status → Report → Type 0
IsReport arguments left left' taken taken' rose status report = IsReportOfRun arguments left left' taken taken' rose status report ⊎
    (IsReportOfBench arguments left left' taken taken' rose status report ⊎ (Asks arguments Image ⊎ ((markers : ℕ) × Asks arguments (Marks markers))))

-- the arguments ask for no task that reads: they are wrong, or ask for a bench
abbrev pub ReadsNothing : List (List ℕ) → Type 0
ReadsNothing arguments = IsWrong arguments ⊎ ((batches : ℕ) × Asks arguments (Bench batches))

-- a run of the whole program. The command line's arguments were passed on, there is an answer to them, the answer was
-- written, and the number is the number of the status. If the arguments ask for no task that reads, the source is as before.
pub record Ran (line : Option (List (List ℕ))) (left left' : Option (List ℕ)) (read_fault as_it_was : Type 0) (taken taken' : Option (List ℕ))
    (write_fault : Type 0) (number : ℕ) : Type 0 where
  pub arguments : List (List ℕ)
  pub answer : Answer
  pub status : Status
  pub report : Option Report
  pub passed : ArePassed line arguments
  pub reported : IsAnswer arguments left left' read_fault answer
  pub unread : ReadsNothing arguments → as_it_was
  pub ended : Ends taken taken' write_fault answer status report
  pub exit : number ≡ number_of status
