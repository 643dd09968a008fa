-- The limits of a script in its runs: few enough commands, a layout, and numbers and objects within the limits at every state.
use Rattle.std.specs.Prelude.{ℕ, ◌-◌, ◌<◌, ◌≤◌, ◌^◌, List, length, sum_by, All}
use Rattle.nmgc_world_spec.specs.{declared.command.Command.Command, declared.command.Reply.Reply, World.Fits, Reach.Row}
use Rattle.nmgc_world_laws.specs.Limits.{IsWithin}
use Rattle.nmgc_object.specs.Layouts.{IsLayout}
use Rattle.nmgc_script.specs.{Spelling.FitsScript, declared.script.Script.Script}
use Rattle.nmgc_run_spec.specs.{Run.IsRound, Run.Run, Run.IsRun, Run.last_state, Run.Plan, Run.State, Run.plan_of, Run.layout_of, AfterRound.program_of}
use Rattle.nmgc_run_laws.specs.Sound.{IsRunnable, IsSoundState}

-- the most commands of all programs of a run. A round answers at least one while some are left, so stops have numbers of 32 bits
abbrev pub most_commands : ℕ
most_commands = 2 ^ 31

-- the programs together have few enough commands for a run
abbrev pub HasFewInAll : Script → Type 0
HasFewInAll script = sum_by length script.threads ≤ most_commands

-- the scripts that have runs: they are within the limits, and have few enough commands. All scripts that can be read are such
pub record FitsRun (script : Script) : Type 0 where
  pub fits : FitsScript script
  pub few : HasFewInAll script

-- each command of the programs is within the limits of a script
abbrev pub AreFitting : Plan → List (List Command) → Type 0
AreFitting plan programs = (m : ℕ) → All (Fits plan.config.words) (program_of programs m)

-- the world and the rest of the programs are within the limits
pub record IsWithinLimits (plan : Plan) (s : State) : Type 0 where
  pub world : IsWithin plan.config.words s.world
  pub left : AreFitting plan s.left

-- a script whose plan is good: it has a layout, and its commands are within the limits. The plan is runnable if its programs
-- are short enough for serials, as all programs that can be read are
pub record HasGoodPlan (script : Script) : Type 0 where
  pub layout : IsLayout (layout_of (plan_of script))
  pub fit : AreFitting (plan_of script) script.threads
  pub runnable : ((m : ℕ) → length (program_of script.threads m) < 2 ^ 32 - 1) → IsRunnable (plan_of script)

-- the law that the plan of a script within the limits is good: it has a layout, and its commands are within the limits
abbrev pub ScriptsHaveGoodPlans : Type 0
ScriptsHaveGoodPlans = (script : Script) → FitsScript script → HasGoodPlan script

-- the law that every state of a run is within the limits
abbrev pub StatesAreWithin : Type 0
StatesAreWithin = (plan : Plan) (run : Run) → IsRunnable plan → AreFitting plan plan.threads → IsRun plan run → IsWithinLimits plan (last_state run)

-- the law that each round from a sound state within the limits has commands and a new state within the limits
abbrev pub RoundsAreWithin : Type 0
RoundsAreWithin = (plan : Plan) (s t : State) (replies : List (List Reply)) (rows : List Row) → IsSoundState plan s → IsWithinLimits plan s →
    IsRound plan.config s replies rows t → All (λ (row : Row). Fits plan.config.words row.command) rows × IsWithinLimits plan t
