-- The verdict on a trace of format 1.
use Rattle.std.specs.Prelude.{◌≡◌, ◌+◌, ℕ, List, ◌∷◌, ◌++◌, length, Bool, true, false, Contains}
use Rattle.nmgc_world_spec.specs.Reach.{Lists}
use Rattle.nmgc_snapshot_laws.specs.State.{State}
use Rattle.nmgc_trace_checker.specs.{declared.line.Line.Line, declared.progress.Progress.Progress, declared.verdict.Verdict.Verdict, Trace.Can, Trace.Comes}
use Rattle.nmgc_trace_checker.specs.declared.line.Line.TheVariants as line
use Rattle.nmgc_trace_checker.specs.declared.progress.Progress.TheVariants as progress
use Rattle.nmgc_trace_checker.specs.declared.verdict.Verdict.TheVariants as verdict

-- the verdict on a line that can't happen, with its number: bad if it is no line of a trace, and refused otherwise
abbrev pub refusal_of : Line → ℕ → Verdict
refusal_of line.Unknown n = verdict.Bad n
refusal_of l n = verdict.Refused n

-- the verdict on a trace with a refused or bad line: the lines before this line can happen, in order, and it can't
pub record EndsAtLine (lines : List Line) (meaning : Verdict) : Type 0 where
  pub earlier : List Line
  pub line : Line
  pub later : List Line
  pub lines_are : lines ≡ earlier ++ line ∷ later
  pub before : Progress
  pub comes : Comes progress.Nothing earlier before
  pub cannot : (next : Progress) → Can before line next → ⊥
  pub known_is : meaning ≡ refusal_of line (length earlier + 1)

-- whether a trace passes: each line can happen, and marking has ended. The program's exit status shows it
abbrev pub is_passed : Verdict → Bool
is_passed (verdict.Closed names) = true
is_passed v = false

-- the verdict on a machine at the end: exactly its marked names, in order, and whether marking has ended
abbrev pub IsVerdictOf : State → Verdict → Type 0
IsVerdictOf s (verdict.Open names) = (s.is_closed ≡ false) × Lists (Contains s.marked) names
IsVerdictOf s (verdict.Closed names) = (s.is_closed ≡ true) × Lists (Contains s.marked) names
IsVerdictOf s v = ⊥

-- the verdict on a trace that ends with this progress
abbrev pub IsVerdictAfter : Progress → Verdict → Type 0
IsVerdictAfter progress.Nothing meaning = meaning ≡ verdict.Unmarked
IsVerdictAfter (progress.Building w) meaning = meaning ≡ verdict.Unmarked
IsVerdictAfter (progress.Marking s) meaning = IsVerdictOf s meaning

-- a trace whose lines can all happen, with the verdict at its end
pub record EndsWell (lines : List Line) (meaning : Verdict) : Type 0 where
  pub last : Progress
  pub comes : Comes progress.Nothing lines last
  pub known_is : IsVerdictAfter last meaning

-- the verdict on a trace: a refused or bad line, or the machine after all lines
abbrev pub IsVerdict : List Line → Verdict → Type 0
IsVerdict lines (verdict.Bad n) = EndsAtLine lines (verdict.Bad n)
IsVerdict lines (verdict.Refused n) = EndsAtLine lines (verdict.Refused n)
IsVerdict lines v = EndsWell lines v
