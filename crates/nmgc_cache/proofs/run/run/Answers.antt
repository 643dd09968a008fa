use Rattle.std.proofs.Common.{arith, subst, sym}
use Rattle.nmgc_run_laws.specs.Limits.{most_commands}
use Rattle.nmgc_cache.specs.Ready.{AreCaches}
use Rattle.nmgc_decider.specs.laws.Ready.{may_run}
use Rattle.nmgc_cache.proofs.run.run.Goals as goal

pub run_programs_observed-requires-after_bounds : goal.run_programs_observed-requires-after_bounds
run_programs_observed-requires-after_bounds g c κs within = may_run _ _ c.args.task.threads most_commands _ _ c.in-Some.ensures (omega arith) (subst (AreCaches c.args.task.threads most_commands) (sym c.as_mut_slice.ensures.value) c.in_ok-programs.ensures)
