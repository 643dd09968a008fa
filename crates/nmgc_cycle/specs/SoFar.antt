-- Runs of programs, stop by stop: the commands given so far, and the programs with which a run goes on.
--
-- At a stop the programs may be replaced by others. So no definition here has the programs with which the run began. The
-- commands given so far are kept with their replies, whichever programs gave them (`given`). The script of the run so far has
-- these commands and the waiting commands of today's programs.
use Rattle.std.specs.Prelude.{ℕ, ◌≡◌, ◌+◌, ◌≤◌, ◌⊎◌, List, [], ◌∷◌, ◌++◌, length, map, sum_by, Option, None, Some, slice_get, slice_index}
use Rattle.nmgc_world_spec.specs.declared.command.{Command.Command, Command.TheVariants.Yield, Reply.Reply}
use Rattle.nmgc_script.specs.declared.script.{Config.Config, Script.Script}
use Rattle.nmgc_journal.specs.declared.report.{End.End, Report.Report}
use Rattle.nmgc_run_spec.specs.Lawful.{IsRunOf}
use Rattle.nmgc_run_laws.specs.Limits.{FitsRun, most_commands}
use Rattle.nmgc_collector_laws.specs.Worked.{Done}
use Rattle.nmgc_cycle.specs.{declared.collector.Collector.Collector, declared.observer.Event.Event, declared.program_run.ProgramRun.ProgramRun, declared.stop.StopEnd.StopEnd, Keeps.CanStop, Keeps.DidRound, Keeps.HasAnswered, Keeps.HasEnded, Keeps.NothingReachableIsFreed, Keeps.StopsAfter, Observed.ObservedRest, Programs.GaveEach, Programs.GaveSome, Programs.MayBeAsked, Programs.all_replies, Programs.most_total, Programs.replies_to, Programs.script_of, Working.HaveTried}

-- no commands of a program, and of each of these programs
abbrev pub no_done : List Done
no_done = []

abbrev pub nothing_given : {P : Type 0} → List P → List (List Done)
nothing_given programs = map (λ (p : _). no_done) programs

-- the commands of each program given first, and then those given later
abbrev pub joined : List (List Done) → List (List Done) → List (List Done)
joined [] later = []
joined (d ∷ first) [] = []
joined (d ∷ first) (e ∷ later) = (d ++ e) ∷ joined first later

-- a collector's run gave these commands so far, and may go on with these programs. The script so far fits a run, and the
-- programs may be asked. The rows have the replies to the commands given. With all that the programs may give, the commands
-- are no more than a run may have
pub record IsRunSoFar {P : Type 0} (next : P → Option Command) (words most : P → ℕ) (valid : P → Type 0) (config : Config) (c : Collector)
    (given : List (List Done)) (programs : List P) : Type 0 where
  pub count : length given ≡ length programs
  pub limits : FitsRun (script_of next config given programs)
  pub asked : MayBeAsked words most valid (script_of next config given programs) c.positions.items programs
  pub positions : (k : ℕ) (d : List Done) → slice_get given k ≡ Some d → slice_index c.positions.items k ≡ length d
  pub replies : (k : ℕ) (d : List Done) → slice_get given k ≡ Some d → all_replies c.rows.rounds k ≡ replies_to d
  pub short : sum_by length given + most_total most programs ≤ most_commands

-- the script of a run so far: the commands given, and then the waiting commands of these programs
abbrev pub script_so_far : {P : Type 0} → (P → Option Command) → ProgramRun → List P → Script
script_so_far next run programs = script_of next run.config run.given.value programs

-- the commands that a run's programs gave so far, and these programs, with which it may go on
abbrev pub MayGoOnWith : {P : Type 0} → (P → Option Command) → (P → ℕ) → (P → ℕ) → (P → Type 0) → ProgramRun → List P → Type 0
MayGoOnWith next words most valid run programs = IsRunSoFar next words most valid run.config run.collector run.given.value programs

-- a run of programs stands before a stop, and goes on with these programs
abbrev pub StandsBeforeStop : {P : Type 0} → (P → Option Command) → (P → ℕ) → (P → ℕ) → (P → Type 0) → ProgramRun → List P → Type 0
StandsBeforeStop next words most valid run programs = MayGoOnWith next words most valid run programs × CanStop (script_so_far next run programs) run.collector

-- a run of programs stands after a stop with this answer
abbrev pub StandsAfterStop : {P : Type 0} → (P → Option Command) → (P → ℕ) → (P → ℕ) → (P → Type 0) → ProgramRun → List P → StopEnd → Type 0
StandsAfterStop next words most valid run programs answer = MayGoOnWith next words most valid run programs ×
    HasAnswered (script_so_far next run programs) run.collector answer

-- a run of programs has ended with this end: so has the run of its script so far. The rows have the replies
abbrev pub RunHasEnded : {P : Type 0} → (P → Option Command) → (P → ℕ) → (P → ℕ) → (P → Type 0) → ProgramRun → List P → End → Type 0
RunHasEnded next words most valid run programs end = MayGoOnWith next words most valid run programs × HasEnded (script_so_far next run programs) run.collector end

-- programs gave further commands, which follow the commands given before
pub record GaveMore {P : Type 0} (next : P → Option Command) (steps : P → Reply → P → Type 0) (words most : P → ℕ) (valid : P → Type 0)
    (before after : List P) (old new : List (List Done)) : Type 0 where
  pub done : List (List Done)
  pub gave : GaveEach next steps words most valid before after done
  pub joined_is : new ≡ joined old done

-- each program waits with `yield`
abbrev pub AreParked : {P : Type 0} → (P → Option Command) → List P → Type 0
AreParked next programs = (k : ℕ) (p : _) → slice_get programs k ≡ Some p → next p ≡ Some Yield

-- the sum of these numbers
abbrev pub total_of : List ℕ → ℕ
total_of numbers = sum_by (λ (n : ℕ). n) numbers

-- programs that may take the place of the run's: one for each, with the same next command. They are valid and fit the
-- segments, and the commands given so far leave room for all that they may give
pub record MayReplace {P Q : Type 0} (next : P → Option Command) (next' : Q → Option Command) (words most : Q → ℕ) (valid : Q → Type 0)
    (run : ProgramRun) (programs : List P) (others : List Q) : Type 0 where
  pub count : length others ≡ length programs
  pub same : (k : ℕ) (p : P) (q : Q) → slice_get programs k ≡ Some p → slice_get others k ≡ Some q → next' q ≡ next p
  pub valid_are : (k : ℕ) (q : Q) → slice_get others k ≡ Some q → valid q
  pub fit : (k : ℕ) (q : Q) → slice_get others k ≡ Some q → words q ≤ run.config.words
  pub short : sum_by length run.given.value + most_total most others ≤ most_commands

-- a run of programs did a stop. The run of its script so far goes on by this stop, and nothing that can be reached was freed
pub record HasDoneStop {P : Type 0} (next : P → Option Command) (programs : List P) (old new : ProgramRun) : Type 0 where
  pub rest : new ≡ record old { collector = new.collector }
  pub after : StopsAfter (script_so_far next old programs) old.collector new.collector
  pub freed : NothingReachableIsFreed (script_so_far next old programs) new.collector

-- a run of programs did a round. They gave commands, and the run of the script with these goes on by this round, from the heap
-- of the stop before. Each mutator passed the gate before each command that it tried
pub record HasDoneRound {P : Type 0} (next : P → Option Command) (steps : P → Reply → P → Type 0) (words most : P → ℕ) (valid : P → Type 0)
    (old new : ProgramRun) (before after : List P) : Type 0 where
  pub config : new.config ≡ old.config
  pub more : GaveMore next steps words most valid before after old.given.value new.given.value
  pub did : DidRound (script_so_far next new after) old.collector new.collector
  pub tried : HaveTried (script_so_far next new after) old.collector new.collector

-- a run of programs was continued from a stop to a later one, or to the same, by stops and rounds in turn. Each of them begins with
-- the heap that the one before left
pub data IsContinued {P : Type 0} (next : P → Option Command) (steps : P → Reply → P → Type 0) (words most : P → ℕ) (valid : P → Type 0)
    (old : ProgramRun) (before : List P) : ProgramRun → List P → Type 0 where
  stays : IsContinued next steps words most valid old before old before
  further : (mid stopped new : ProgramRun) (between after : List P) → IsContinued next steps words most valid old before mid between →
      HasDoneStop next between mid stopped → HasDoneRound next steps words most valid stopped new between after →
      IsContinued next steps words most valid old before new after

-- a run of programs was continued to a later stop, or to its end by one stop more
abbrev pub IsContinuedTo : {P : Type 0} → (P → Option Command) → (P → Reply → P → Type 0) → (P → ℕ) → (P → ℕ) → (P → Type 0) → ProgramRun → List P → ProgramRun → List P → Option End → Type 0
IsContinuedTo next steps words most valid old before new after None = IsContinued next steps words most valid old before new after
IsContinuedTo next steps words most valid old before new after (Some end) = (last : ProgramRun) ×
    IsContinued next steps words most valid old before last after × HasDoneStop next after last new

-- programs in a round that was given up: they are as before, or took the replies of a lawful round of the run
abbrev pub IsRoundOrNone : {P : Type 0} → (P → Option Command) → (P → Reply → P → Type 0) → (P → ℕ) → (P → ℕ) → (P → Type 0) → ProgramRun → List P → List P → Type 0
IsRoundOrNone next steps words most valid old before after = (after ≡ before) ⊎ ((new : ProgramRun) × HasDoneRound next steps words most valid old new before after)

-- the part of a run of programs from a stop on that an observer was given before the run was given up. It is a part of the run
-- of the script that the programs had at some stop since. After it they may have taken the replies of one lawful round more
pub record ObservedSince {J P : Type 0} (steps fails : J → Event → J → Type 0) (next : P → Option Command) (replies : P → Reply → P → Type 0)
    (words most : P → ℕ) (valid : P → Type 0) (old : ProgramRun) (before after : List P) (p q : J) : Type 0 where
  pub given : List (List Done)
  pub between : List P
  pub more : GaveMore next replies words most valid before between old.given.value given
  pub limits : FitsRun (script_of next old.config given between)
  pub observed : ObservedRest steps fails (script_of next old.config given between) old.collector p q
  pub since : GaveSome next replies words most valid between after
  pub last : ProgramRun
  pub last_given : last.given.value ≡ given
  pub replied : IsRoundOrNone next replies words most valid last between after

-- the promise for a run whose programs were replaced. Its report is lawful for the script of all commands given and of each last
-- program's next command. It has the replies to the commands given
pub record IsReportOf {P : Type 0} (next : P → Option Command) (config : Config) (given : List (List Done)) (programs : List P) (report : Report) : Type 0 where
  pub limits : FitsRun (script_of next config given programs)
  pub run : IsRunOf (script_of next config given programs) report
  pub replies : (k : ℕ) (d : List Done) → slice_get given k ≡ Some d → all_replies report.rounds k ≡ replies_to d
