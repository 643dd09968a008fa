-- For a script that fits a run the plan is runnable, and the states of its runs are sound.
use Rattle.nmgc_cycle.proofs.Vocabulary.{ℕ, ◌≤◌, length, most_commands, IsLayout, Script, HasGoodPlan, Run, last_state, program_of, IsRunnable, IsSoundState, plan_of, layout_of, few_in_each, runnable_of, scripts_have_good_plans, states_are_sound, Collector, IsAfterStop, FitsRun}

pub good_plan : (script : Script) → FitsRun script → HasGoodPlan script
good_plan script limits = scripts_have_good_plans script limits.fits

-- a program has no more commands than a run may have
pub program_few : (script : Script) → FitsRun script → (m : ℕ) → length (program_of script.threads m) ≤ most_commands
program_few script limits m = few_in_each script limits m

pub is_runnable : (script : Script) → FitsRun script → IsRunnable (plan_of script)
is_runnable script limits = runnable_of script limits

pub is_layout : (script : Script) → FitsRun script → IsLayout (layout_of (plan_of script))
is_layout script limits = (good_plan script limits).layout

module _ (script : Script) (c : Collector) (run : Run) (limits : FitsRun script) (still : IsAfterStop script c run) where
  -- the state of the last stop is sound
  pub sound_state : IsSoundState (plan_of script) (last_state run)
  sound_state = states_are_sound (plan_of script) run (is_runnable script limits) still.at_stop.is_run
