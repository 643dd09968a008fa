-- A text that was taken in pieces.
use Rattle.std.specs.Prelude.{ℕ, ◌≡◌, ◌≢◌, ◌+◌, ◌≤◌, List, ◌++◌, All, length, map, take, Option, Some, None}
use Rattle.nmgc_io.specs.Text.{lines_of}
use Rattle.nmgc_fin.specs.{declared.job.Job.Job, declared.scan.Scan.Scan, declared.scan.TheConstants.FRONT, Handles.AreNumbered, Jobs.NamesOf, Jobs.IsFirstBad, Jobs.weak_of}

-- the ended lines were read: the first bad line has the given number, or none is bad. Then these are their jobs and their count
abbrev pub AreScanned : Option ℕ → List Job → ℕ → List (List ℕ) → Type 0
AreScanned (Some bad) jobs count lines = IsFirstBad lines bad
AreScanned None jobs count lines = NamesOf lines (map weak_of jobs) × AreNumbered jobs × (length jobs ≤ count) × (count ≡ length lines)

-- a scan has taken these bytes: ended lines, which were read, and a line that isn't ended. The scan has this line's front
pub record HasScanned (scan : Scan) (bytes : List ℕ) : Type 0 where
  pub ended : List (List ℕ)
  pub line : List ℕ
  -- whatever comes after the bytes, the text's lines are the ended lines and the lines that begin with this line
  pub cut : (rest : List ℕ) → lines_of (bytes ++ rest) ≡ ended ++ lines_of (line ++ rest)
  pub plain : All (λ b. b ≢ 10) line
  pub few : length ended + length line ≤ length bytes
  pub front : scan.front.items ≡ take FRONT line
  pub counted : scan.lines ≤ length ended
  pub scanned : AreScanned scan.bad scan.jobs.items scan.lines ended
