-- Laws of runs, as statements. The functions of `laws` prove them.
use Rattle.std.specs.Prelude.{ℕ, ◌≡◌, ◌≤◌, ◌↔◌, ◌+◌, ◌-◌, ◌*◌, ◌/◌, ◌^◌, List, [], ◌∷◌, ◌++◌, length, drop, slice_index_or, count_by, All, Some}
use Rattle.nmgc_object.specs.{Layouts.IsLayout, Words.class_count, declared.layout.Layout.Layout, declared.size.TheConstants.DENSE_CLASS, declared.size.TheConstants.DENSE_WORDS}
use Rattle.nmgc_segment.specs.declared.state.State.TheVariants as stands
use Rattle.nmgc_segment.specs.Segment.{Segment}
use Rattle.nmgc_alloc.specs.AllocState.{is}
use Rattle.nmgc_journal.specs.{declared.report.RoundRows.RoundRows, declared.report.Report.Report, declared.report.StopRow.StopRow, declared.report.CycleRow.CycleRow, declared.report.End.End}
use Rattle.nmgc_script.specs.{Spelling.FitsScript, Spelling.upgraded, declared.script.Script.Script}
use Rattle.nmgc_run_spec.specs.{AfterRound.program_of, Run.Plan, Run.answer_of, Run.Run, Run.Turn, Run.IsRun, Run.IsTurn, Run.AreRowsOf, Run.last_state, Lawful.IsLawful, Lawful.IsRunOf, AfterRound.with_turn, Run.IsFoundObject, Run.IsSteadyObject, Run.owed}
use Rattle.nmgc_world_spec.specs.{declared.value.Name.Name, Reach.Row, Reach.replayed, World.serial_of}
use Rattle.nmgc_world_laws.specs.Reachable.{IsSound}
use Rattle.nmgc_stop_spec.specs.{Cycle.Cycle, Kept.interval_of}
use Rattle.nmgc_run_laws.specs.{Limits.FitsRun, Sound.IsRunnable}

-- the law that a layout has the classes of dense blocks, and one for each doubling from `DENSE_WORDS` to a segment's words
abbrev pub ClassesAreCounted : Type 0
ClassesAreCounted = (layout : Layout) (doublings : ℕ) → IsLayout layout → layout.words ≡ DENSE_WORDS * 2 ^ doublings →
    class_count layout ≡ DENSE_CLASS + 1 + doublings

-- the number of a mutator's commands that the rounds answered
abbrev pub answered_count : List RoundRows → ℕ → ℕ
answered_count [] m = 0
answered_count (rows ∷ rounds) m = length (slice_index_or rows.replies m []) + answered_count rounds m

-- the law that the report determines the rest of each program: the commands that no round answered
abbrev pub LeftIsDetermined : Type 0
LeftIsDetermined = (plan : Plan) (run : Run) (rounds : List RoundRows) (stops : List StopRow) (cycles : List CycleRow) → IsRun plan run →
    AreRowsOf run rounds stops cycles → (m : ℕ) → program_of (last_state run).left m ≡ drop (answered_count rounds m) (program_of plan.threads m)

-- the law that a command makes at most one object: a mutator's serial and the commands left are no more than its program
abbrev pub SerialsAreFew : Type 0
SerialsAreFew = (plan : Plan) (run : Run) → IsRunnable plan → IsRun plan run → (m : ℕ) →
    serial_of (last_state run).world m + length (program_of (last_state run).left m) ≤ length (program_of plan.threads m)

-- the number of free segments in the row of the last stop
abbrev pub last_free_count : List StopRow → ℕ
last_free_count [] = 0
last_free_count (row ∷ []) = row.free
last_free_count (row ∷ next ∷ rows) = last_free_count (next ∷ rows)

-- the law that the row of the last stop counts the free segments of the report's heap
abbrev pub FreeIsReal : Type 0
FreeIsReal = (script : Script) (report : Report) → IsLawful script report →
    last_free_count report.stops ≡ count_by (λ (segment : Segment). is segment.state stands.Free) report.segments.segments

-- the law that a report is lawful for a script whatever the script's version: the plan is the same
abbrev pub VersionIsNothing : Type 0
VersionIsNothing = (script : Script) (version : ℕ) (report : Report) → IsLawful script report ↔ IsLawful (record script { version = version }) report

-- the law that a report is lawful for a script exactly if it is lawful for the script's upgrade
abbrev pub UpgradeIsNothing : Type 0
UpgradeIsNothing = (script : Script) (report : Report) → IsLawful script report ↔ IsLawful (upgraded script) report

-- the law that the report of a run that has ended has a row for each cycle begun
abbrev pub EachCycleHasItsRow : Type 0
EachCycleHasItsRow = (plan : Plan) (run : Run) (rounds : List RoundRows) (stops : List StopRow) (cycles : List CycleRow) (end : End) →
    IsRun plan run → AreRowsOf run rounds stops cycles → answer_of plan (last_state run) ≡ Some end → length cycles ≡ (last_state run).begun

-- a cycle closed soon, by its row: at most (kept - 1) / quota + 1 rounds after its snapshot, with the quotient rounded down.
-- So the rounds before the last can't scan all objects that the cycle kept
abbrev pub IsClosedSoon : ℕ → CycleRow → Type 0
IsClosedSoon quota row = row.closed ≤ row.from + ((row.kept - 1) / quota + 1)

-- the law that each cycle in a lawful report of a script within the limits was closed soon, even if a full cycle closed it
abbrev pub ClosingsAreSoon : Type 0
ClosingsAreSoon = (script : Script) (report : Report) → FitsScript script → IsLawful script report →
    All (IsClosedSoon script.config.quota) report.cycles

-- the law that a run with a further round and its stop at the end is a run
abbrev pub RunGoesOn : Type 0
RunGoesOn = (plan : Plan) (run : Run) (turn : Turn) → IsRun plan run → IsTurn plan (last_state run) turn → IsRun plan (with_turn run turn)

-- the law that a further round and its stop add their replies and rows to a run's report, and change nothing else in it
abbrev pub AddsOneTurn : Type 0
AddsOneTurn = (run : Run) (turn : Turn) (rounds : List RoundRows) (stops : List StopRow) (cycles : List CycleRow) → AreRowsOf run rounds stops cycles →
    AreRowsOf (with_turn run turn) (rounds ++ turn.replies ∷ []) (stops ++ turn.stop.row ∷ []) (cycles ++ turn.stop.cycles)

-- the law that once a round and its stop are added to a run, its last state is the state after this stop
abbrev pub LastIsOfTurn : Type 0
LastIsOfTurn = (run : Run) (turn : Turn) → last_state (with_turn run turn) ≡ turn.stop.state

-- the law that a lawful report is of the run for which it is lawful, for a script that fits a run
abbrev pub LawfulAreOfRuns : Type 0
LawfulAreOfRuns = (script : Script) (report : Report) → FitsRun script → (lawful : IsLawful script report) →
    (run : IsRunOf script report) × (run.lawful ≡ lawful)

-- the law that a cycle's found objects are exactly its steady objects, if the commands of its last round owed nothing
abbrev pub FoundIsSteady : Type 0
FoundIsSteady = (c : Cycle) (last : List Row) → IsSound (interval_of c) → c.rows ≡ c.earlier ++ last → owed (replayed c.snapshot c.earlier) last ≡ [] →
    (name : Name) → IsFoundObject c name ↔ IsSteadyObject c name
