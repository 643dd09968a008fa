-- The heap that a run left represents its last world, and so has an image.
use Rattle.nmgc_cli.proofs.Vocabulary.{arith, IsSegments, Script, Report, IsRunOf, snapshots, last_state, IsRunnable, State, Plan, plan_of, layout_of, in_limits_fit, runnable_of, heap_at_stop, scripts_have_good_plans, states_are_within, blocks_at_stop, states_are_sound, IsInLimits, IsLeftAs, places_low}

pub left_as : (script : Script) (report : Report) → IsSegments report.segments → IsInLimits script → (run : IsRunOf script report) →
    IsLeftAs report (last_state run.lawful.run).world
left_as script report segments limits run =
    let plan : Plan = plan_of script in
    let lawful = run.lawful in
    let s : State = last_state lawful.run in
    let left = heap_at_stop script report (in_limits_fit script limits) lawful in
    let h = left.2 in
    let runnable : IsRunnable plan = runnable_of script (in_limits_fit script limits) in
    let good = scripts_have_good_plans script limits.fits in
    let most = limits.fits.config.words.most in
    record {
      world = (states_are_sound plan lawful.run runnable lawful.is_run).world;
      limit = plan.config.words;
      small = omega (arith, most);
      within = (states_are_within plan lawful.run runnable good.fit lawful.is_run).world;
      layout = layout_of plan;
      sized = good.layout;
      earlier = snapshots s.progress;
      places = h.places;
      represents = h.holds.represents;
      registers = h.holds.registers;
      roots = h.holds.roots;
      layout_is = h.holds.layout_is;
      blocks = blocks_at_stop (layout_of plan) s report.words report.segments report.mutators left.0 h;
      settled = places_low (layout_of plan) s report.words report.segments report.mutators left.0 segments h;
      weaks = left.0;
      listed = h.listed;
      weaks_are = left.1;
    }
