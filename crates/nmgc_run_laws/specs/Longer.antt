-- Longer programs: the same programs with more commands at their ends.
--
-- A program that decides has given its commands so far, and its next command waits. These commands are a list. A run of such
-- lists is a run of all longer lists too, since no stop and no round looks beyond the command that waits.
use Rattle.std.specs.Prelude.{◌≡◌, ◌⊎◌, ◌<◌, List, [], ◌∷◌, ◌++◌, length, map}
use Rattle.nmgc_world_spec.specs.declared.command.Command.{Command}
use Rattle.nmgc_journal.specs.{declared.report.RoundRows.RoundRows, declared.report.StopRow.StopRow, declared.report.CycleRow.CycleRow}
use Rattle.nmgc_run_spec.specs.Run.{Plan, State, Run, Turn, Stop, IsRun, AreRowsOf, last_state}

-- the programs, each with more commands at its end
abbrev pub longer : List (List Command) → List (List Command) → List (List Command)
longer [] more = []
longer (program ∷ programs) [] = program ∷ programs
longer (program ∷ programs) (m ∷ more) = (program ++ m) ∷ longer programs more

-- only programs with commands left go on
abbrev pub MayGoOn : List (List Command) → List (List Command) → Type 0
MayGoOn [] more = Unit {0}
MayGoOn (left ∷ lefts) [] = Unit {0}
MayGoOn (left ∷ lefts) (m ∷ more) = ((m ≡ []) ⊎ (0 < length left)) × MayGoOn lefts more

-- the plan of the longer programs. Their states, stops, rounds and runs differ only in the rest of the programs
abbrev pub longer_plan : List (List Command) → Plan → Plan
longer_plan more plan = record { config = plan.config; threads = longer plan.threads more }

abbrev pub longer_state : List (List Command) → State → State
longer_state more s = record s { left = longer s.left more }

abbrev pub longer_stop : List (List Command) → Stop → Stop
longer_stop more stop = record stop { state = longer_state more stop.state }

abbrev pub longer_turn : List (List Command) → Turn → Turn
longer_turn more turn = record turn { worked = longer_state more turn.worked; stop = longer_stop more turn.stop }

abbrev pub longer_run : List (List Command) → Run → Run
longer_run more run = record { opening = longer_stop more run.opening; turns = map (longer_turn more) run.turns }

-- a run is also a run of longer programs, and its last state differs only in the rest of the programs
abbrev pub RunsAreOfLonger : Type 0
RunsAreOfLonger = (plan : Plan) (run : Run) (more : List (List Command)) → IsRun plan run → MayGoOn (last_state run).left more →
    IsRun (longer_plan more plan) (longer_run more run) × (last_state (longer_run more run) ≡ longer_state more (last_state run))

-- the rows of a run are also the rows of the run of the longer programs
abbrev pub RowsAreOfLonger : Type 0
RowsAreOfLonger = (run : Run) (more : List (List Command)) (rounds : List RoundRows) (stops : List StopRow) (cycles : List CycleRow) →
    AreRowsOf run rounds stops cycles → AreRowsOf (longer_run more run) rounds stops cycles
