use Rattle.std.proofs.Common.{ℕ, arith, subst}
use Rattle.nmgc_run_laws.specs.Limits.{most_commands}
use Rattle.nmgc_decider.specs.laws.Ready.{ready_within}
use Rattle.nmgc_loads.specs.Ready.{AreLoads}
use Rattle.nmgc_loads.proofs.run.programs_of.Goals as goal

pub returns : goal.returns
returns c = subst (λ (n : ℕ). AreLoads n most_commands c.loop-mutator.programs.items) (omega (arith, c))
    (ready_within _ _ _ _ _ _ c.loop-mutator.invariant.few c.loop-mutator.invariant.are)
