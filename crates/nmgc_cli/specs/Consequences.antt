-- The consequences of each answer that was written (`IsAnswer`, `Ends`), for each task. `laws` has the law.
use Rattle.std.specs.Prelude.{◌≡◌, ◌≢◌, ◌⊎◌, ◌≤◌, ℕ, List, length, Option, Some, None}
use Rattle.std.specs.Io.KnownBytes.{Appends}
use Rattle.nmgc_io.specs.Text.{Rose}
use Rattle.nmgc_limits.specs.Limits.{most_script_bytes}
use Rattle.nmgc_arguments.specs.Output.{IsWritten}
use Rattle.nmgc_world_spec.specs.declared.value.Name.{Name}
use Rattle.nmgc_script.specs.{Spelling.upgraded, Spelling.most_bytes, Spelling.Spells, Spelling.bench_script, Parts.plain, declared.script.Script.Script}
use Rattle.nmgc_journal.specs.declared.report.Report.{Report}
use Rattle.nmgc_image.specs.declared.image.Image as shown
use Rattle.nmgc_image.specs.{declared.read.TheConstants.MAX_IMAGE_BYTES, Image.Shows}
use Rattle.nmgc_image.specs.Image as spelling
use Rattle.nmgc_retain.specs.{declared.path.Retained.Retained, Paths.IsRight, Paths.retained_text}
use Rattle.nmgc_run_spec.specs.{Run.last_state, Lawful.IsRunOf, Lawful.IsHeapFull, Lawful.IsFullRun}
use Rattle.nmgc_cli.specs.{Output.Answer, Output.status_of, Output.IsMarksOf, Output.Asks, Output.IsAnswer, Output.Ends, Output.IsReadWithin, Output.SpellsOnly, Output.IsReportOfRun, Output.IsReportOfBench, declared.status.Status.Status, declared.status.Status.TheVariants.Done, declared.status.Status.TheVariants.WriteFault, declared.status.Status.TheVariants.HeapFull, declared.status.Status.TheVariants.NoMemory, declared.task.Task.Task, declared.task.Task.TheVariants.Run, declared.task.Task.TheVariants.Bench, declared.task.Task.TheVariants.Upgrade, declared.task.Task.TheVariants.Image, declared.task.Task.TheVariants.Retain, declared.task.Task.TheVariants.Marks}

-- a property follows from each answer that was written. It is about the arguments, the bytes left in the source, the bytes
-- that the sink took, faults of either, and the resulting status and report
abbrev pub Follows : (List (List ℕ) → Option (List ℕ) → Option (List ℕ) → Option (List ℕ) → Option (List ℕ) → Type 0 → Type 0 → Status →
    Option Report → Type 0) → Type 0
Follows P = (arguments : List (List ℕ)) (left left' taken taken' : Option (List ℕ)) (read read' written written' : ℕ) (answer : Answer) (status : Status)
    (report : Option Report) → IsAnswer arguments left left' (Rose read read') answer → Ends taken taken' (Rose written written') answer status report →
    P arguments left left' taken taken' (Rose read read') (Rose written written') status report

-- a report of `image`: the source's bytes were read to their end and spell one script. The report is a report of a run of it,
-- and so lawful. The spelling of the image that shows the last world was written (`IsWritten`), with the status of its end
pub record IsReportOfImage (arguments : List (List ℕ)) (left left' taken taken' : Option (List ℕ)) (rose : Type 0) (status : Status) (report : Report) :
    Type 0 where
  pub asked : Asks arguments Image
  pub bytes : List ℕ
  pub read : IsReadWithin most_script_bytes left left' bytes
  pub script : Script
  pub spells : SpellsOnly bytes script
  pub run : IsRunOf script report
  pub text : List ℕ
  pub shows : (image : shown.Image) × Shows (last_state run.lawful.run).world image × spelling.Spells text image
  pub written : IsWritten WriteFault taken taken' rose (status_of report.end) text status

-- a report of `marks N`: like a report of `run`, but with another text. The text lists the names that strong fields reach in
-- the run's last world, from its registers and queues and from the slots of g
pub record IsReportOfMarks (arguments : List (List ℕ)) (left left' taken taken' : Option (List ℕ)) (rose : Type 0) (status : Status) (report : Report) :
    Type 0 where
  pub markers : ℕ
  pub asked : Asks arguments (Marks markers)
  pub bytes : List ℕ
  pub read : IsReadWithin most_script_bytes left left' bytes
  pub script : Script
  pub spells : SpellsOnly bytes script
  pub run : IsRunOf script report
  pub text : List ℕ
  pub is_text : IsMarksOf markers script report run.lawful text
  pub written : IsWritten WriteFault taken taken' rose (status_of report.end) text status

-- a report of `run`, `bench N`, `image` or `marks N`
abbrev pub IsReportOfTask : List (List ℕ) → Option (List ℕ) → Option (List ℕ) → Option (List ℕ) → Option (List ℕ) → Type 0 → Status → Report → Type 0
IsReportOfTask arguments left left' taken taken' rose status report = IsReportOfRun arguments left left' taken taken' rose status report ⊎
    (IsReportOfBench arguments left left' taken taken' rose status report ⊎
    (IsReportOfImage arguments left left' taken taken' rose status report ⊎ IsReportOfMarks arguments left left' taken taken' rose status report))

-- an upgrade, collected for readers. If arguments ask for it, there is no report, and the status isn't `HeapFull`. With
-- `Done`, the source's bytes were read to their end and spell one script, and the plain spelling of its upgrade was written
abbrev pub IsUpgrade : List (List ℕ) → Option (List ℕ) → Option (List ℕ) → Option (List ℕ) → Option (List ℕ) → Status → Option Report → Type 0
IsUpgrade arguments left left' taken taken' status report = Asks arguments Upgrade → (report ≡ None) × (status ≢ HeapFull)
    × (status ≡ Done → (bytes : List ℕ) × IsReadWithin most_script_bytes left left' bytes × (script : Script) × SpellsOnly bytes script ×
    Appends taken taken' (plain (upgraded script)))

-- a path, collected for readers. If arguments ask for it, there is no report, and the status isn't `HeapFull`. With `Done`,
-- the source's bytes were read to their end and spell an image, and the text of a right answer in this image was written
abbrev pub IsPath : List (List ℕ) → Option (List ℕ) → Option (List ℕ) → Option (List ℕ) → Option (List ℕ) → Status → Option Report → Type 0
IsPath arguments left left' taken taken' status report = (name : Name) → Asks arguments (Retain name) → (report ≡ None) × (status ≢ HeapFull)
    × (status ≡ Done → (bytes : List ℕ) × IsReadWithin MAX_IMAGE_BYTES left left' bytes × (image : shown.Image) × spelling.Spells bytes image ×
    (answer : Retained) × IsRight image name answer × Appends taken taken' (retained_text answer))

-- the report is a report of a run that ended as `HeapFull`. Each run of the report has the cause: its last stop is crowded
abbrev pub IsFullOf : Script → Option Report → Type 0
IsFullOf script None = ⊥
IsFullOf script (Some report) = IsRunOf script report × IsHeapFull report.end × ((run : IsRunOf script report) → IsFullRun script report run)

-- a script is run through: the status is `Done` or `NoMemory`, or `HeapFull` with a report whose runs have its cause
abbrev pub IsRunThrough : Script → Status → Option Report → Type 0
IsRunThrough script status report = (status ≡ NoMemory) ⊎ (status ≡ Done) ⊎ ((status ≡ HeapFull) × IsFullOf script report)

-- the task reads a script and runs it
abbrev pub IsRunning : Task → Type 0
IsRunning Run = Unit {0}
IsRunning (Bench batches) = ⊥
IsRunning Upgrade = ⊥
IsRunning Image = Unit {0}
IsRunning (Retain name) = ⊥
IsRunning (Marks markers) = Unit {0}

-- completeness of a run: without a fault of source or sink, a script within its version's limit is run through (`IsRunThrough`)
abbrev pub IsComplete : List (List ℕ) → Option (List ℕ) → Type 0 → Type 0 → Status → Option Report → Type 0
IsComplete arguments left read_fault write_fault status report = (bytes : List ℕ) (script : Script) (task : Task) → Asks arguments task → IsRunning task →
    left ≡ Some bytes → length bytes ≤ most_bytes bytes → Spells bytes script
    → (read_fault → ⊥) → (write_fault → ⊥) → IsRunThrough script status report

-- completeness of a bench: if the sink doesn't fail, the bench's script is run through (`IsRunThrough`)
abbrev pub IsBenchComplete : List (List ℕ) → Type 0 → Status → Option Report → Type 0
IsBenchComplete arguments write_fault status report = (batches : ℕ) → Asks arguments (Bench batches) → (write_fault → ⊥) →
    IsRunThrough (bench_script batches) status report

-- completeness of an upgrade: without a fault, a script within its version's limit gives `Done` or `NoMemory`
abbrev pub IsUpgradeComplete : List (List ℕ) → Option (List ℕ) → Type 0 → Type 0 → Status → Type 0
IsUpgradeComplete arguments left read_fault write_fault status = (bytes : List ℕ) (script : Script) → Asks arguments Upgrade → left ≡ Some bytes →
    length bytes ≤ most_bytes bytes → Spells bytes script
    → (read_fault → ⊥) → (write_fault → ⊥) → (status ≡ NoMemory) ⊎ (status ≡ Done)

-- completeness of a path: without a fault, an image within the limit gives `Done` or `NoMemory`, for any name
abbrev pub IsRetainComplete : List (List ℕ) → Option (List ℕ) → Type 0 → Type 0 → Status → Type 0
IsRetainComplete arguments left read_fault write_fault status = (name : Name) (bytes : List ℕ) (image : shown.Image) → Asks arguments (Retain name) →
    left ≡ Some bytes → length bytes ≤ MAX_IMAGE_BYTES → spelling.Spells bytes image
    → (read_fault → ⊥) → (write_fault → ⊥) → (status ≡ NoMemory) ⊎ (status ≡ Done)
