-- The names that a closed trace keeps, by the heap and the commands alone, without marks.
use Rattle.std.specs.Prelude.{◌≡◌, List, [], ◌∷◌, ◌++◌}
use Rattle.nmgc_world_spec.specs.{declared.value.Name.Name, World.World, Reach.Row, Reach.IsLegal, Reach.opened, Reach.finalised, Reach.IsKept, Reach.Lists}
use Rattle.nmgc_snapshot_laws.specs.Run.{row_of}
use Rattle.nmgc_trace_checker.specs.{declared.line.Line.Line, declared.verdict.Verdict.Verdict, Trace.Comes}
use Rattle.nmgc_trace_checker.specs.declared.line.Line.TheVariants as line
use Rattle.nmgc_trace_checker.specs.declared.progress.Progress.TheVariants as progress
use Rattle.nmgc_trace_checker.specs.declared.verdict.Verdict.TheVariants as verdict

-- the row of a line that is a command, and no row for any other line
abbrev pub row_in : Line → List Row
row_in (line.Event e) = row_of e
row_in _ = []

-- the commands among lines, as rows of a history
abbrev pub rows_in : List Line → List Row
rows_in [] = []
rows_in (l ∷ ls) = row_in l ++ rows_in ls

-- the names that a closed trace reports: exactly the names that a cycle has to keep by the rule of weak pointers. The cycle's
-- snapshot is the world that the lines before `mark` built. The commands after `mark` opened and finalised names, and each
-- got the answer that the heap gives. Marks play no part
pub record IsKeptListed (lines : List Line) (names : List Name) : Type 0 where
  pub earlier : List Line
  pub later : List Line
  pub lines_are : lines ≡ earlier ++ line.Mark ∷ later
  pub snapshot : World
  pub built : Comes progress.Nothing earlier (progress.Building snapshot)
  pub legal : IsLegal snapshot (rows_in later)
  pub kept : Lists (IsKept snapshot (opened snapshot (rows_in later)) (finalised snapshot (rows_in later))) names

-- if the verdict is a closed trace, its names are exactly the names that a cycle has to keep
abbrev pub ListsKept : List Line → Verdict → Type 0
ListsKept lines (verdict.Closed names) = IsKeptListed lines names
ListsKept lines _ = Unit {0}
