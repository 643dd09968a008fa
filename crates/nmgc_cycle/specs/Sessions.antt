-- Sessions: runs whose commands come between two rounds, so the script isn't known before the run.
--
-- Each mutator has a queue of commands. In a round it gives the commands that wait, and then at most one `yield`, its pause. A
-- clause on a session is about every script that it may turn out to have. Each program of such a script has the commands that
-- were answered, then the first one that waits, and then any others. While the session is open, each program has commands left.
-- So further commands take nothing away: the clause was true before of all scripts with these commands.
use Rattle.std.specs.Prelude.{ℕ, ◌≡◌, ◌+◌, ◌<◌, ◌≤◌, ◌⊎◌, ◌||◌, ◌++◌, List, [], ◌∷◌, length, map, drop, All, Bool, true, false, Option, Some, None, option_to_list, slice_get, slice_index}
use Rattle.nmgc_limits.specs.{Limits.most_script_bytes, declared.mutators.TheConstants.MAKERS}
use Rattle.nmgc_world_spec.specs.{declared.command.Command.Command, declared.command.Command.TheVariants.Yield, World.Fits}
use Rattle.nmgc_script.specs.{declared.script.Config.Config, declared.script.Script.Script, Spelling.FitsConfig, Spelling.version_3, Parts.total_words}
use Rattle.nmgc_run_spec.specs.AfterRound.{program_of}
use Rattle.nmgc_run_laws.specs.Limits.{FitsRun}
use Rattle.nmgc_mutator.specs.Programs.{Follows}
use Rattle.nmgc_cycle.specs.{declared.command_queue.CommandQueue.CommandQueue, declared.session.Session.Session, Observed.IsInRun, Shown.report_cycles}

-- a program that has these commands in order, and between them pauses, which are `yield`
abbrev pub WithPauses : List Command → List Command → Type 0
WithPauses commands [] = commands ≡ []
WithPauses commands (c ∷ program) = ((rest : List Command) × (commands ≡ c ∷ rest) × WithPauses rest program) ⊎ ((c ≡ Yield) × WithPauses commands program)

-- the pause that a mutator gives after its commands, or none
abbrev pub pause_in : Bool → List Command
pause_in true = Yield ∷ []
pause_in false = []

-- the first command of a list
abbrev pub first_of : List Command → Option Command
first_of [] = None
first_of (c ∷ commands) = Some c

-- the commands that a queue still gives if no more come: those that wait, and then its pause
abbrev pub left_in : CommandQueue → List Command
left_in q = q.waiting.items ++ pause_in q.can_pause

-- a queue as a program: its next command, and the most commands that it still gives
abbrev pub next_in : CommandQueue → Option Command
next_in q = first_of (left_in q)

abbrev pub most_in : CommandQueue → ℕ
most_in q = length (left_in q)

-- a queue took the reply to its next command: the command is among those that were answered
pub record HasGiven (old new : CommandQueue) : Type 0 where
  pub left : left_in new ≡ drop 1 (left_in old)
  pub waiting : new.waiting.items ≡ drop 1 old.waiting.items
  pub answered : (c : Command) → next_in old ≡ Some c → new.answered ≡ old.answered ++ c ∷ []
  pub accepted : new.accepted ≡ old.accepted

-- a queue between two calls: its commands fit, and are few enough for a script. The accepted commands are those that were
-- answered, with pauses between them, and then those that wait
pub record IsQueue (q : CommandQueue) : Type 0 where
  pub pause : q.pause ≡ Yield
  pub answered_fit : All (Fits q.words) q.answered
  pub waiting_fit : All (Fits q.words) q.waiting.items
  pub few : length q.answered + most_in q ≤ most_script_bytes
  pub past : (given : List Command) × (q.accepted ≡ given ++ q.waiting.items) × WithPauses given q.answered

-- commands that may come first in an open session: those that wait, or any if none waits
abbrev pub MayComeFirst : List Command → List Command → Type 0
MayComeFirst [] rest = 0 < length rest
MayComeFirst (c ∷ waiting) rest = (more : List Command) × (rest ≡ c ∷ more)

-- the commands after those that were answered, in a script that the session may turn out to have. In an open session there is at
-- least one, and the first one that waits comes first. In a closed session the queue's next command comes first
abbrev pub IsRest : Bool → CommandQueue → List Command → Type 0
IsRest true q rest = MayComeFirst q.waiting.items rest
IsRest false q rest = Follows (next_in q) rest

-- a script that a session may turn out to have
pub record IsScriptOfSession (session : Session) (script : Script) : Type 0 where
  pub version : script.version ≡ version_3.number
  pub config_is : script.config ≡ session.config
  pub count : length script.threads ≡ length session.queues.items
  pub programs : (k : ℕ) (q : CommandQueue) → slice_get session.queues.items k ≡ Some q → (rest : List Command) ×
      (program_of script.threads k ≡ q.answered ++ rest) × IsRest session.is_open q rest
  pub limits : FitsRun script

-- a session between two calls, before a stop or after one. Its collector is there in the run of every script that the session
-- may turn out to have
pub record IsSession (stop : Bool) (session : Session) : Type 0 where
  pub config_fits : FitsConfig version_3.segments session.config
  pub some : 1 ≤ length session.queues.items
  pub few : length session.queues.items ≤ MAKERS
  pub total : total_words session.config (length session.queues.items) ≤ version_3.heap_words
  pub queues : (k : ℕ) (q : CommandQueue) → slice_get session.queues.items k ≡ Some q → IsQueue q × (q.words ≡ session.config.words)
  pub room : session.is_open ≡ true → (k : ℕ) (q : CommandQueue) → slice_get session.queues.items k ≡ Some q →
      length q.answered + length q.waiting.items + 1 ≤ most_script_bytes
  pub positions_are : length session.collector.positions.items ≡ length session.queues.items
  pub positions : (k : ℕ) (q : CommandQueue) → slice_get session.queues.items k ≡ Some q →
      slice_index session.collector.positions.items k ≡ length q.answered
  pub in_run : (script : Script) → IsScriptOfSession session script → IsInRun script session.collector stop

-- the mutator may get another command, or a pause
abbrev pub HasRoom : CommandQueue → Type 0
HasRoom q = length q.answered + length q.waiting.items + 2 ≤ most_script_bytes

-- each queue has room
abbrev pub HaveRoom : List CommandQueue → Type 0
HaveRoom queues = (k : ℕ) (q : CommandQueue) → slice_get queues k ≡ Some q → HasRoom q

-- each mutator of a session may get another command, or a pause
abbrev pub HaveRoomAll : Session → Type 0
HaveRoomAll session = HaveRoom session.queues.items

-- a queue that may give a pause after the commands that wait
abbrev pub with_pause : CommandQueue → CommandQueue
with_pause q = record q { can_pause = true }

-- each queue may give a pause, and there is room for it and for one more
abbrev pub HavePauses : List CommandQueue → Type 0
HavePauses queues = (k : ℕ) (q : CommandQueue) → slice_get queues k ≡ Some q → (q.can_pause ≡ true) × HasRoom q

-- the program of a mutator if no line follows: the commands that were answered, those that wait, and a pause unless it was given
-- after the session was closed
abbrev pub program_in : Bool → CommandQueue → List Command
program_in is_open q = q.answered ++ (q.waiting.items ++ pause_in (is_open || q.can_pause))

-- the script of a session if no line follows
abbrev pub script_in : Session → Script
script_in session = record {
  version = version_3.number;
  config = session.config;
  threads = map (program_in session.is_open) session.queues.items;
}

-- the program of a mutator in a round: the commands that were answered, and the next one
abbrev pub program_before : CommandQueue → List Command
program_before q = q.answered ++ option_to_list (next_in q)

abbrev pub script_before : Config → List CommandQueue → Script
script_before config queues = record { version = version_3.number; config = config; threads = map program_before queues }

-- the commands accepted from the session's lines, mutator by mutator
abbrev pub accepted_in : Session → List (List Command)
accepted_in session = map (λ (q : CommandQueue). q.accepted) session.queues.items

-- a script that consists of these commands, mutator by mutator, with pauses between them
pub record HasAccepted (accepted : List (List Command)) (script : Script) : Type 0 where
  pub count : length script.threads ≡ length accepted
  pub each : (k : ℕ) → k < length accepted → WithPauses (program_of accepted k) (program_of script.threads k)

-- the session's run so far: its script consists of the accepted commands, fits a run, and has the collector in its run
pub record HasRunSoFar (stop : Bool) (session : Session) : Type 0 where
  pub accepted : HasAccepted (accepted_in session) (script_in session)
  pub config : (script_in session).config ≡ session.config
  pub limits : FitsRun (script_in session)
  pub in_run : IsInRun (script_in session) session.collector stop

-- a session begins: nothing was accepted, no command waits, and there is no row yet
pub record BeginsSession (head : Script) (session : Session) : Type 0 where
  pub is : IsSession true session
  pub config : session.config ≡ head.config
  pub is_open : session.is_open ≡ true
  pub count : length session.queues.items ≡ length head.threads
  pub nothing : (k : ℕ) (q : CommandQueue) → slice_get session.queues.items k ≡ Some q → (q.accepted ≡ []) × (q.waiting.items ≡ [])
  pub no_rounds : session.collector.rows.rounds ≡ []
  pub no_stops : session.collector.rows.stops ≡ []
  pub no_cycles : report_cycles session.collector ≡ []

-- a queue as it begins: no command was accepted
pub record IsEmptyQueue (words : ℕ) (q : CommandQueue) : Type 0 where
  pub queue : IsQueue q
  pub words_are : q.words ≡ words
  pub waiting : q.waiting.items ≡ []
  pub accepted : q.accepted ≡ []
  pub answered : q.answered ≡ []

-- queues without commands, for commands of at most this number of words
pub record AreEmptyQueues (words count : ℕ) (queues : List CommandQueue) : Type 0 where
  pub count_is : length queues ≡ count
  pub each : (k : ℕ) (q : CommandQueue) → slice_get queues k ≡ Some q → IsEmptyQueue words q

-- a session with the same lines: its heap, its form and the commands accepted so far
pub record HasSameLines (old new : Session) : Type 0 where
  pub config : new.config ≡ old.config
  pub is_open : new.is_open ≡ old.is_open
  pub accepted : accepted_in new ≡ accepted_in old

-- a queue was given one more command, which waits as its last
pub record HasPushed (c : Command) (old new : CommandQueue) : Type 0 where
  pub rest : new ≡ record old { waiting = new.waiting; accepted = new.accepted }
  pub waiting : new.waiting.items ≡ old.waiting.items ++ c ∷ []
  pub accepted : new.accepted ≡ old.accepted ++ c ∷ []

-- queue k was given one more command, and the other queues stayed
pub record HasPushedAt (k : ℕ) (c : Command) (old new : List CommandQueue) : Type 0 where
  pub count : length new ≡ length old
  pub pushed : (q r : CommandQueue) → slice_get old k ≡ Some q → slice_get new k ≡ Some r → HasPushed c q r × IsQueue r
  pub others : (n : ℕ) → (n ≡ k → ⊥) → slice_get new n ≡ slice_get old n

-- mutator k of a session was given one more command, and nothing else changed
pub record HasPushedTo (k : ℕ) (c : Command) (old new : Session) : Type 0 where
  pub rest : new ≡ record old { queues = new.queues }
  pub queues : HasPushedAt k c old.queues.items new.queues.items
