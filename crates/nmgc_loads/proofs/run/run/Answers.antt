use Rattle.std.proofs.Common.{ap, arith, length, subst, sym}
use Rattle.std.proofs.lemmas.List.{with_items_is}
use Rattle.nmgc_run_laws.specs.Limits.{most_commands}
use Rattle.nmgc_loads.specs.Ready.{AreLoads}
use Rattle.nmgc_decider.specs.laws.Ready.{may_run}
use Rattle.nmgc_loads.proofs.run.run.Goals as goal

pub run_programs_observed-requires-after_bounds : goal.run_programs_observed-requires-after_bounds
run_programs_observed-requires-after_bounds g c κs within = may_run _ _ c.args.task.threads most_commands _ _ c.in-Some.ensures (omega arith) (subst (AreLoads c.args.task.threads most_commands) (sym c.as_mut_slice.ensures.value) c.in_ok-programs.ensures)

pub returns : goal.returns
returns g c =
    let before = c.as_mut_slice.ensures.value in
    let ran = c.in_ok-collector.ensures.ok.0 in
    let own = c.in_ok-programs.programs.ok.0 in
    let same = ap length before in
    let count = ran.gave.programs in
    record {
      ran = record {
        config = c.in-Some.config;
        heap = c.in-Some.ensures;
        began = c.as_mut_slice.result.now;
        loads = subst (AreLoads c.args.task.threads most_commands) (sym before) c.in_ok-programs.ensures;
        ran = rw (with_items_is c.in_ok-programs.programs c.run_programs_observed.new.programs (omega (arith, own, same, count))) ran;
      };
    }
