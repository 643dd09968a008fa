use Rattle.std.proofs.Common.{◌≤◌}
use Rattle.nmgc_run_laws.specs.Limits.{most_commands}
use Rattle.nmgc_loads.specs.Ready.{AreLoads}
use Rattle.nmgc_loads.proofs.run.programs_of.Given as goal

abbrev pub invariant-loop-mutator : goal.invariant-loop-mutator
invariant-loop-mutator l = record {
  are : AreLoads l.mutator l.given l.programs.items;
  few : l.given ≤ most_commands;
}
