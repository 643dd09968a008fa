-- Runs of programs that decide: the script that a run turns out to have, and what programs give in a round and in a run.
--
-- The script of a run of programs has as program k the commands that program k gave so far, and then its waiting command if
-- it isn't at its end. After a round the programs have given more, so the script is longer. A collector at a stop of the
-- shorter script's run is at a stop of the longer script's run too (`stops_are_of_longer`).
use Rattle.std.specs.Prelude.{ℕ, zero, suc, ◌≡◌, ◌⊎◌, ◌+◌, ◌<◌, ◌≤◌, ◌*◌, List, [], ◌∷◌, ◌++◌, length, map, All, Option, Some, slice_get, slice_index, option_to_list, flat_map, min, replicate, slice_index_or}
use Rattle.nmgc_world_spec.specs.{declared.command.Command.Command, declared.command.Reply.Reply, World.Fits}
use Rattle.nmgc_limits.specs.declared.mutators.TheConstants.{MAKERS}
use Rattle.nmgc_script.specs.{declared.script.Config.Config, declared.script.Script.Script, Spelling.FitsConfig, Parts.total_words, Spelling.version_3}
use Rattle.nmgc_journal.specs.{declared.report.End.End, declared.report.Report.Report, declared.report.RoundRows.RoundRows}
use Rattle.nmgc_run_spec.specs.{Lawful.IsRunOf, AfterRound.program_of}
use Rattle.nmgc_run_laws.specs.{Limits.FitsRun, Limits.most_commands, Longer.longer}
use Rattle.nmgc_collector_laws.specs.Worked.{Done}
use Rattle.nmgc_round.specs.{declared.table.Round.Round, View.Opening}
use Rattle.nmgc_mutator.specs.{declared.mutator.Mutator.Mutator, declared.program.Listed.Listed, Programs.Gives, Programs.Follows, Slice.HasRoom, Does.IsYield}
use Rattle.nmgc_cycle.specs.{declared.collector.Collector.Collector, declared.worker.Worker.Worker, Keeps.DidRound, Keeps.HasEnded, Working.left_at, Working.DidSlices, Working.HaveAllWorked, Working.HaveTried, Working.in_blocks}
use Rattle.nmgc_mutator.specs.declared.mutator.TheConstants.{MOST_PUSHED}
use Rattle.nmgc_updrem.specs.Rings.{Receiver}

-- the commands given, without the replies; and the replies
abbrev pub commands_given : List Done → List Command
commands_given done = map (λ (d : Done). d.0) done

abbrev pub replies_to : List Done → List Reply
replies_to done = map (λ (d : Done). d.1) done

-- the script with more commands at the ends of its programs
abbrev pub longer_script : List (List Command) → Script → Script
longer_script more script = record script { threads = longer script.threads more }

-- only programs with commands left become longer
abbrev pub MayBeLonger : Script → List ℕ → List (List Command) → Type 0
MayBeLonger script positions more = (k : ℕ) → k < length script.threads → (program_of more k ≡ []) ⊎ (0 < length (left_at script positions k))

-- a program gave these commands and took their replies. It is valid still, and may give fewer commands
pub record GaveOn {P : Type 0} (next : P → Option Command) (steps : P → Reply → P → Type 0) (words most : P → ℕ) (valid : P → Type 0) (p q : P)
    (done : List Done) : Type 0 where
  pub gives : Gives next steps p done q
  pub fit : All (Fits (words p)) (commands_given done)
  pub valid_is : valid q
  pub words_are : words q ≡ words p
  pub fewer : most q + length done ≤ most p

-- each program gave its own commands and took their replies
pub record GaveEach {P : Type 0} (next : P → Option Command) (steps : P → Reply → P → Type 0) (words most : P → ℕ) (valid : P → Type 0)
    (old new : List P) (done : List (List Done)) : Type 0 where
  pub programs : length new ≡ length old
  pub count : length done ≡ length old
  pub each : (k : ℕ) (p q : P) (d : List Done) → slice_get old k ≡ Some p → slice_get new k ≡ Some q → slice_get done k ≡ Some d →
      GaveOn next steps words most valid p q d

-- a slice ended by itself, after these commands: the last one ends slices, or there are `slice` of them and the program has a next
-- one. Then the slice is the same, whatever commands follow
abbrev pub HasEndedItself : ℕ → Option Command → List Command → Type 0
HasEndedItself slice next given = ((before : List Command) × (last : Command) × (given ≡ before ++ last ∷ []) × IsYield last) ⊎
    ((length given ≡ slice) × ((c : Command) × (next ≡ Some c)))

-- the commands that follow a slice: commands that the program may give next, or any others if the slice ended by itself
abbrev pub MayComeAfter : ℕ → Option Command → List Command → List Command → Type 0
MayComeAfter slice next given rest = Follows next rest ⊎ (HasEndedItself slice next given × (0 < length rest))

-- the rest of each program of the script: the commands done, and then commands that may follow them
abbrev pub Continues : {P : Type 0} → (P → Option Command) → Script → List ℕ → List P → List (List Done) → Type 0
Continues next script positions programs done = (k : ℕ) (q : _) (d : List Done) → slice_get programs k ≡ Some q → slice_get done k ≡ Some d →
    (rest : List Command) × (left_at script positions k ≡ commands_given d ++ rest) × MayComeAfter script.config.slice (next q) (commands_given d) rest

-- the rest of each program of a script begins with the program's next command, and is empty at its end
pub record FollowEach {P : Type 0} (next : P → Option Command) (script : Script) (positions : List ℕ) (programs : List P) : Type 0 where
  pub count : length programs ≡ length script.threads
  pub each : (k : ℕ) (p : P) → slice_get programs k ≡ Some p → Follows (next p) (left_at script positions k)

-- whatever the programs give in a round, the script with some more commands has it, and fits a run
abbrev pub CanContinue : {P : Type 0} → (P → Option Command) → (P → Reply → P → Type 0) → (P → ℕ) → (P → ℕ) → (P → Type 0) → Script → List ℕ → List P → Type 0
CanContinue next steps words most valid script positions programs = (after : List _) (done : List (List Done)) →
    GaveEach next steps words most valid programs after done → (more : List (List Command)) × MayBeLonger script positions more ×
    Continues next (longer_script more script) positions after done × FitsRun (longer_script more script)

-- programs that may be asked: one for each mutator, valid, whose commands fit the segments. With its commands answered, each
-- gives no more commands than a run may have
pub record MayBeAsked {P : Type 0} (words most : P → ℕ) (valid : P → Type 0) (script : Script) (positions : List ℕ) (programs : List P) : Type 0 where
  pub count : length programs ≡ length script.threads
  pub valid_are : (k : ℕ) (p : P) → slice_get programs k ≡ Some p → valid p
  pub fit : (k : ℕ) (p : P) → slice_get programs k ≡ Some p → words p ≤ script.config.words
  pub few : (k : ℕ) (p : P) → slice_get programs k ≡ Some p → slice_index positions k + most p ≤ most_commands

-- the most further commands of program k, and 0 if there is none
abbrev pub most_at : {P : Type 0} → (P → ℕ) → List P → ℕ → ℕ
most_at most [] k = 0
most_at most (p ∷ programs) zero = most p
most_at most (p ∷ programs) (suc k) = most_at most programs k

-- the most further commands of all programs
abbrev pub most_total : {P : Type 0} → (P → ℕ) → List P → ℕ
most_total most [] = 0
most_total most (p ∷ programs) = most p + most_total most programs

-- each mutator has room for the next slice of its program
abbrev pub HaveAskRoom : {P : Type 0} → (P → ℕ) → ℕ → List Mutator → List P → Type 0
HaveAskRoom most slice mutators programs = (k : ℕ) (m : Mutator) → slice_get mutators k ≡ Some m → HasRoom m (min slice (most_at most programs k))

-- room in the inbox for the next slice of each mutator's program: for the most entries that its commands push, in whole blocks
abbrev pub HasAskInbox : {P : Type 0} → (P → ℕ) → ℕ → List Receiver → List P → Type 0
HasAskInbox most slice inbox programs = (k : ℕ) (r : Receiver) → slice_get inbox k ≡ Some r →
    in_blocks (MOST_PUSHED * min slice (most_at most programs k)) ≤ r.taken.spare

-- the programs gave some commands and took their replies
abbrev pub GaveSome : {P : Type 0} → (P → Option Command) → (P → Reply → P → Type 0) → (P → ℕ) → (P → ℕ) → (P → Type 0) → List P → List P → Type 0
GaveSome next steps words most valid before after = (done : List (List Done)) × GaveEach next steps words most valid before after done

-- the workers of a round asked their programs: these gave commands, and each worker did its slice of each script that has them
pub record HaveWorkedAsAsked {P : Type 0} (next : P → Option Command) (steps : P → Reply → P → Type 0) (words most : P → ℕ) (valid : P → Type 0)
    (round : Round) (script : Script) (positions : List ℕ) (old new : List Worker) (before after : List P) : Type 0 where
  pub count : length new ≡ length old
  pub done : List (List Done)
  pub gave : GaveEach next steps words most valid before after done
  pub worked : (more : List (List Command)) → Continues next (longer_script more script) positions after done →
      HaveAllWorked round (longer_script more script) positions old new
  pub counts : (k : ℕ) (o x : Worker) (d : List Done) → slice_get old k ≡ Some o → slice_get new k ≡ Some x → slice_get done k ≡ Some d →
      (x.done ≡ length d) × (x.mutator.replies.items ≡ o.mutator.replies.items ++ replies_to d)

-- the slices of a round for programs: they gave commands, and each script with these commands, longer than the one before or
-- equal, has these slices
pub record DidAskSlices {P : Type 0} (next : P → Option Command) (steps : P → Reply → P → Type 0) (words most : P → ℕ) (valid : P → Type 0)
    (script : Script) (o : Opening) (old new : Collector) (before after : List P) : Type 0 where
  pub done : List (List Done)
  pub gave : GaveEach next steps words most valid before after done
  pub did : (more : List (List Command)) → MayBeLonger script old.positions.items more →
      Continues next (longer_script more script) old.positions.items after done → FitsRun (longer_script more script) →
      DidSlices (longer_script more script) o old new
  pub count : length new.mutators.items ≡ length old.mutators.items
  pub positions : (k : ℕ) (d : List Done) → slice_get done k ≡ Some d → slice_index new.positions.items k ≡ slice_index old.positions.items k + length d
  pub replies : (k : ℕ) (m n : Mutator) (d : List Done) → slice_get old.mutators.items k ≡ Some m → slice_get new.mutators.items k ≡ Some n →
      slice_get done k ≡ Some d → n.replies.items ≡ m.replies.items ++ replies_to d

-- a round for programs: they gave commands, and each script with these commands, longer than the one before or equal, has this
-- round in its run. The positions advance by the commands, and the round's row has the replies that the programs took
pub record DidAsk {P : Type 0} (next : P → Option Command) (steps : P → Reply → P → Type 0) (words most : P → ℕ) (valid : P → Type 0)
    (script : Script) (old new : Collector) (before after : List P) : Type 0 where
  pub done : List (List Done)
  pub gave : GaveEach next steps words most valid before after done
  pub did : (more : List (List Command)) → MayBeLonger script old.positions.items more →
      Continues next (longer_script more script) old.positions.items after done → FitsRun (longer_script more script) →
      DidRound (longer_script more script) old new × HaveTried (longer_script more script) old new
  pub positions : (k : ℕ) (d : List Done) → slice_get done k ≡ Some d → slice_index new.positions.items k ≡ slice_index old.positions.items k + length d
  pub rows : RoundRows
  pub rows_are : new.rows.rounds ≡ old.rows.rounds ++ rows ∷ []
  pub replies : (k : ℕ) (d : List Done) → slice_get done k ≡ Some d → slice_index_or rows.replies k [] ≡ replies_to d

-- program k of a script from its position on, as a list
abbrev pub IsListed : Script → List ℕ → ℕ → Listed → Type 0
IsListed script positions k p = (p.commands.now ≡ program_of script.threads k) × (p.position ≡ slice_index positions k) × (p.words ≡ script.config.words)

-- the programs of a script from these positions on, as lists
pub record AreListed (script : Script) (positions : List ℕ) (programs : List Listed) : Type 0 where
  pub count : length programs ≡ length script.threads
  pub each : (k : ℕ) (p : Listed) → slice_get programs k ≡ Some p → IsListed script positions k p

-- some program isn't at its end
abbrev pub SomeGives : {P : Type 0} → (P → Option Command) → List P → Type 0
SomeGives next programs = (k : ℕ) × (p : _) × (c : Command) × (slice_get programs k ≡ Some p) × (next p ≡ Some c)

-- the script of programs: the commands that each gave, and then its waiting command
abbrev pub threads_of : {P : Type 0} → (P → Option Command) → List (List Done) → List P → List (List Command)
threads_of next [] programs = []
threads_of next (d ∷ given) [] = []
threads_of next (d ∷ given) (p ∷ programs) = (commands_given d ++ option_to_list (next p)) ∷ threads_of next given programs

abbrev pub script_of : {P : Type 0} → (P → Option Command) → Config → List (List Done) → List P → Script
script_of next config given programs = record { version = version_3.number; config = config; threads = threads_of next given programs }

-- the replies of mutator k in a report, round by round
abbrev pub all_replies : List RoundRows → ℕ → List Reply
all_replies rounds k = flat_map (λ (rows : RoundRows). slice_index_or rows.replies k []) rounds

-- a script of this configuration, with this number of programs, all without commands
abbrev pub HasNoCommands : Config → ℕ → Script → Type 0
HasNoCommands config count script = script ≡ record { version = version_3.number; config = config; threads = replicate count [] }

-- programs that may be run: one to `MAKERS` of them with a heap within the limits of version 3, and few enough commands in all
pub record MayRun {P : Type 0} (words most : P → ℕ) (valid : P → Type 0) (config : Config) (programs : List P) : Type 0 where
  pub config_fits : FitsConfig version_3.segments config
  pub some : 1 ≤ length programs
  pub few : length programs ≤ MAKERS
  pub total : total_words config (length programs) ≤ version_3.heap_words
  pub valid_are : (k : ℕ) (p : P) → slice_get programs k ≡ Some p → valid p
  pub fit : (k : ℕ) (p : P) → slice_get programs k ≡ Some p → words p ≤ config.words
  pub short : most_total most programs ≤ most_commands

-- programs ran to this end. They gave commands, and the collector's run of the script that they turned out to have has ended.
-- The replies in its rows are those that they took
pub record HasRunPrograms {P : Type 0} (next : P → Option Command) (steps : P → Reply → P → Type 0) (words most : P → ℕ) (valid : P → Type 0)
    (config : Config) (before after : List P) (c : Collector) (end : End) : Type 0 where
  pub given : List (List Done)
  pub gave : GaveEach next steps words most valid before after given
  pub limits : FitsRun (script_of next config given after)
  pub ended : HasEnded (script_of next config given after) c end
  pub replies : (k : ℕ) (d : List Done) → slice_get given k ≡ Some d → all_replies c.rows.rounds k ≡ replies_to d

-- the promise for programs. They gave commands and took the report's replies, each in order. The report is lawful for the
-- script of these commands and of each program's next one, which fits a run
pub record IsRunOfPrograms {P : Type 0} (next : P → Option Command) (steps : P → Reply → P → Type 0) (words most : P → ℕ) (valid : P → Type 0)
    (config : Config) (before after : List P) (report : Report) : Type 0 where
  pub given : List (List Done)
  pub gave : GaveEach next steps words most valid before after given
  pub limits : FitsRun (script_of next config given after)
  pub run : IsRunOf (script_of next config given after) report
  pub replies : (k : ℕ) (d : List Done) → slice_get given k ≡ Some d → all_replies report.rounds k ≡ replies_to d
