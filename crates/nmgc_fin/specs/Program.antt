-- The program's output for given arguments and bytes, and the bytes that are written.
use Rattle.std.specs.Prelude.{◌≡◌, ◌⊎◌, ◌≤◌, ◌+◌, ℕ, List, [], ◌∷◌, ◌++◌, All, length, map, codes, decimal, Option, Some, Result, Ok, Err}
use Rattle.std.specs.Io.KnownBytes.{Consumes, Keeps, IsAtEnd}
use Rattle.std.proofs.Common.{Vec, Global}
use Rattle.nmgc_arguments.specs.Output.{ArePassed, text_bytes}
use Rattle.nmgc_arguments.specs.Output as shared
use Rattle.nmgc_io.specs.Text.{Takes, TakesUpTo, lines_of}
use Rattle.nmgc_world_spec.specs.declared.value.Name.{Name}
use Rattle.nmgc_lists.specs.declared.memory.NoMemory.{NoMemory as NoMemoryOf}
use Rattle.nmgc_fin.specs.{declared.job.Job.Job, declared.run.TheConstants.MOST_WORKERS, declared.reading.TheConstants.MAX_REPORT_BYTES, declared.top.FinStatus.FinStatus, declared.top.Output.Output, Handles.Handles, Handles.joined, Jobs.AreJobsOf, Jobs.IsFirstBad, Jobs.weak_of, Order.IsPlaced, Order.jobs_text}
use Rattle.nmgc_fin.specs.declared.top.FinStatus.TheVariants.{Done, Usage, ReadFault, WriteFault, BadReport, TooLong, NoMemory}

-- the number of workers is allowed
abbrev pub IsCount : ℕ → Type 0
IsCount workers = (1 ≤ workers) × (workers ≤ MOST_WORKERS)

-- the arguments are this number of workers
abbrev pub Asks : List (List ℕ) → ℕ → Type 0
Asks arguments workers = (arguments ≡ decimal workers ∷ []) × IsCount workers

-- the arguments are no number of workers
abbrev pub IsWrong : List (List ℕ) → Type 0
IsWrong arguments = (workers : ℕ) → Asks arguments workers → ⊥

-- the exit number of the process
abbrev pub number_of : FinStatus → ℕ
number_of Done = 0
number_of Usage = 2
number_of ReadFault = 3
number_of WriteFault = 4
number_of BadReport = 5
number_of TooLong = 5
number_of NoMemory = 7

-- a status whose text is fixed
abbrev pub IsFixed : FinStatus → Type 0
IsFixed Done = ⊥
IsFixed WriteFault = ⊥
IsFixed BadReport = ⊥
IsFixed _ = Unit {0}

-- the fixed text of a status
abbrev pub fixed_text : FinStatus → List ℕ
fixed_text Usage = codes "usage: nmgc_fin W\n"
fixed_text ReadFault = codes "read fault\n"
fixed_text TooLong = codes "too long\n"
fixed_text NoMemory = codes "no memory\n"
fixed_text _ = []

-- the report of the first bad line
abbrev pub bad_text : ℕ → List ℕ
bad_text line = codes "bad line " ++ decimal line ++ 10 ∷ []

-- the output after a text was to be made: the text with this status, or the fixed text of `NoMemory` with that status
abbrev pub IsMadeOf : FinStatus → Result (Vec ℕ Global) NoMemoryOf → Output → Type 0
IsMadeOf status (Ok text) reported = (reported.status ≡ status) × (text_bytes reported.text ≡ text.items)
IsMadeOf status (Err _) reported = (reported.status ≡ NoMemory) × (text_bytes reported.text ≡ fixed_text NoMemory)

-- the text lists exactly these handled jobs, in order of number
pub record ListsHandled (by : List (List Job)) (text : List ℕ) : Type 0 where
  pub names : List Name
  pub count : length names ≡ length (joined by)
  pub placed : All (IsPlaced names) (joined by)
  pub reported : text ≡ jobs_text names

-- the given number of workers handled the jobs, each once, and the text lists the handled jobs, which are all jobs, in order
pub record AreDone (workers : ℕ) (jobs : List Job) (text : List ℕ) : Type 0 where
  pub by : List (List Job)
  pub count : length by ≡ workers
  pub handled : Handles jobs by
  pub reported : ListsHandled by text
  pub all : text ≡ jobs_text (map weak_of jobs)

-- the output for a report's bytes. With `Done` the workers handled the report's jobs, each once, and the text lists the jobs
-- in order. Otherwise the text reports the first bad line, or that there was no memory
abbrev pub SaysOfBytes : ℕ → List ℕ → FinStatus → List ℕ → Type 0
SaysOfBytes workers bytes Done text = (jobs : List Job) × AreJobsOf (lines_of bytes) jobs × AreDone workers jobs text
SaysOfBytes workers bytes BadReport text = (line : ℕ) × IsFirstBad (lines_of bytes) line × (text ≡ bad_text line)
SaysOfBytes workers bytes NoMemory text = text ≡ fixed_text NoMemory
SaysOfBytes workers bytes _ text = ⊥

-- a source was read to its end and gave these bytes, no more than a report may have
pub record IsRead (old new : Option (List ℕ)) (bytes : List ℕ) : Type 0 where
  pub taken : Consumes old new bytes
  pub end : IsAtEnd new
  pub within : length bytes ≤ MAX_REPORT_BYTES

-- the program's output: the cause and the text of each status, by the arguments, the source's bytes before and after, and the
-- source's count of faults. With `Done` the given number of workers handled the jobs of the bytes read, each once, and the
-- text lists the jobs in order
abbrev pub Says : List (List ℕ) → Option (List ℕ) → Option (List ℕ) → Type 0 → FinStatus → List ℕ → Type 0
Says arguments old new rose Usage text = IsWrong arguments × Keeps old new × (text ≡ fixed_text Usage)
Says arguments old new rose ReadFault text = (workers : ℕ) × Asks arguments workers × TakesUpTo old new MAX_REPORT_BYTES × rose × (text ≡ fixed_text ReadFault)
Says arguments old new rose TooLong text = (workers : ℕ) × Asks arguments workers × Takes old new (MAX_REPORT_BYTES + 1) × (text ≡ fixed_text TooLong)
Says arguments old new rose NoMemory text = (workers : ℕ) × Asks arguments workers × TakesUpTo old new MAX_REPORT_BYTES × (text ≡ fixed_text NoMemory)
Says arguments old new rose Done text = (workers : ℕ) × Asks arguments workers × (bytes : List ℕ) × IsRead old new bytes × SaysOfBytes workers bytes Done text
Says arguments old new rose BadReport text = (workers : ℕ) × Asks arguments workers × (bytes : List ℕ) × IsRead old new bytes × SaysOfBytes workers bytes BadReport text
Says arguments old new rose WriteFault text = ⊥

-- the written output: the text was written whole, or the sink failed and has a prefix of the text
abbrev pub IsWritten : Option (List ℕ) → Option (List ℕ) → Type 0 → FinStatus → List ℕ → FinStatus → Type 0
IsWritten old new rose reported text status = shared.IsWritten WriteFault old new rose reported text status

-- completeness: let the arguments be a number of workers, and known bytes within the limit give jobs. If neither count of
-- faults rises, the status is `Done` or `NoMemory`
abbrev pub IsComplete : List (List ℕ) → Option (List ℕ) → Type 0 → Type 0 → FinStatus → Type 0
IsComplete arguments left read_fault write_fault status = (bytes : List ℕ) (workers : ℕ) (jobs : List Job) → Asks arguments workers → left ≡ Some bytes →
    length bytes ≤ MAX_REPORT_BYTES → AreJobsOf (lines_of bytes) jobs
    → (read_fault → ⊥) → (write_fault → ⊥) → (status ≡ Done) ⊎ (status ≡ NoMemory)

-- a run of the program: the command line's arguments were passed on, and the output for the arguments and the bytes read was
-- written. If the arguments are wrong, the source is as it was. The exit number is the status's number
pub record Ran (line : Option (List (List ℕ))) (left left' : Option (List ℕ)) (read_fault as_it_was : Type 0) (taken taken' : Option (List ℕ))
    (write_fault : Type 0) (number : ℕ) : Type 0 where
  pub arguments : List (List ℕ)
  pub reported : FinStatus
  pub text : List ℕ
  pub status : FinStatus
  pub passed : ArePassed line arguments
  pub says : Says arguments left left' read_fault reported text
  pub unread : IsWrong arguments → as_it_was
  pub written : IsWritten taken taken' write_fault reported text status
  pub exit : number ≡ number_of status
