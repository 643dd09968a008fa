-- The terms of the contracts below the top call, and of the laws: refusals of a reader, tasks that can be done, parts of answers.
use Rattle.std.specs.Prelude.{◌≡◌, ◌≤◌, ◌++◌, ℕ, List, [], ◌∷◌, codes, decimal, Option}
use Rattle.nmgc_script.specs.{Parts.most_batches, declared.fault.Cause.Cause, declared.fault.ScriptFault.ScriptFault, declared.script.Script.Script, Spelling.IsInLimits}
use Rattle.nmgc_io.specs.declared.ends.ReadEnd.{ReadEnd}
use Rattle.nmgc_journal.specs.declared.report.Report.{Report}
use Rattle.nmgc_image.specs.declared.fault.ImageFault.{ImageFault}
use Rattle.nmgc_limits.specs.Limits.{most_script_bytes}
use Rattle.nmgc_world_spec.specs.declared.value.Name.{Name}
use Rattle.nmgc_arguments.specs.Output.{text_bytes}
use Rattle.nmgc_arguments.specs.Output as shared
use Rattle.nmgc_cli.specs.{declared.answer.Refusal.Refusal, declared.output.Output.Output, declared.task.Task.Task, declared.task.Task.TheVariants.Run, declared.task.Task.TheVariants.Bench, declared.task.Task.TheVariants.Upgrade, declared.task.Task.TheVariants.Image, declared.task.Task.TheVariants.Retain, declared.task.Task.TheVariants.Marks, Output.Answer, Output.answer_status, Output.answer_report, Output.answer_text, Output.cause_text, Output.IsReadWithin, Output.AnswersRead, Output.AnswersImage, declared.status.Status.Status, declared.status.Status.TheVariants.WriteFault}
use Rattle.nmgc_image.specs.declared.read.TheConstants.{MAX_IMAGE_BYTES}
use Rattle.nmgc_pmark.specs.declared.crew.TheConstants.{MOST_MARKERS}
use Rattle.nmgc_run_spec.specs.Lawful.{IsRunOf}
use Rattle.nmgc_io.specs.declared.ends.ReadEnd.TheVariants as read
use Rattle.nmgc_script.specs.declared.fault.ScriptFault.TheVariants as script
use Rattle.nmgc_image.specs.declared.fault.ImageFault.TheVariants as image
use Rattle.nmgc_cli.specs.declared.answer.Refusal.TheVariants as no

-- the refusal if a source couldn't be read to its end
abbrev pub read_refusal : ReadEnd → Refusal
read_refusal read.ReadFault = no.ReadFault
read_refusal read.TooLong = no.TooLong
read_refusal read.NoMemory = no.NoMemory

-- the refusal if a script couldn't be read from its bytes
abbrev pub script_refusal : ScriptFault → Refusal
script_refusal (script.Bad line c) = no.Bad line c
script_refusal script.NoMemory = no.NoMemory

-- the refusal if an image couldn't be read from its bytes
abbrev pub image_refusal : ImageFault → Refusal
image_refusal (image.Bad line) = no.BadImage line
image_refusal image.NoMemory = no.NoMemory

-- the refusal reports a bad line. Only the text of such a refusal takes memory.
abbrev pub IsBad : Refusal → Type 0
IsBad (no.Bad line c) = Unit {0}
IsBad (no.BadImage line) = Unit {0}
IsBad _ = ⊥

-- the output has the status, the report and the text of this answer
pub record IsOutputOf (answer : Answer) (reported : Output) : Type 0 where
  pub status : reported.status ≡ answer_status answer
  pub report : reported.report ≡ answer_report answer
  pub text : text_bytes reported.text ≡ answer_text answer

-- the report is a report of a run of some script within the limits
pub record IsOfScript (report : Report) : Type 0 where
  pub script : Script
  pub limits : IsInLimits script
  pub run : IsRunOf script report

-- a bench may have this number of batches
abbrev pub IsBench : ℕ → Type 0
IsBench batches = (1 ≤ batches) × (batches ≤ most_batches)

-- `marks N` may have this number of markers
abbrev pub AreMarkers : ℕ → Type 0
AreMarkers markers = (1 ≤ markers) × (markers ≤ MOST_MARKERS)

-- the task's number, if it has one, is allowed: the batches of a bench, or the markers of `marks N`
abbrev pub CanBeDone : Task → Type 0
CanBeDone Run = Unit {0}
CanBeDone (Bench batches) = IsBench batches
CanBeDone Upgrade = Unit {0}
CanBeDone Image = Unit {0}
CanBeDone (Retain name) = Unit {0}
CanBeDone (Marks markers) = AreMarkers markers

-- all bytes left in a source were read, and a script of some version may have this number of bytes
abbrev pub IsRead : Option (List ℕ) → Option (List ℕ) → List ℕ → Type 0
IsRead old new bytes = IsReadWithin most_script_bytes old new bytes

-- the whole text was written, with the intended status; or a prefix was written, with `WriteFault`, and the sink's count rose
abbrev pub IsWritten : Option (List ℕ) → Option (List ℕ) → Type 0 → Status → List ℕ → Status → Type 0
IsWritten old new rose reported text status = shared.IsWritten WriteFault old new rose reported text status

-- the answer of `retain NAME`
abbrev pub AnswersRetain : Name → Option (List ℕ) → Option (List ℕ) → Type 0 → Answer → Type 0
AnswersRetain name = AnswersRead MAX_IMAGE_BYTES (AnswersImage name)

-- the line that reports the first bad line of a script
abbrev pub bad_line : ℕ → Cause → List ℕ
bad_line line c = codes "bad line " ++ decimal line ++ 32 ∷ cause_text c ++ 10 ∷ []

-- the task reads the source: it is no bench
abbrev pub IsReading : Task → Type 0
IsReading (Bench batches) = ⊥
IsReading _ = Unit {0}
