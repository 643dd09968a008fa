use Rattle.std.proofs.Common.{◌≤◌}
use Rattle.nmgc_run_laws.specs.Limits.{most_commands}
use Rattle.nmgc_cache.specs.Ready.{AreCaches}
use Rattle.nmgc_cache.proofs.run.programs_of.Given as goal

abbrev pub invariant-loop-mutator : goal.invariant-loop-mutator
invariant-loop-mutator l = record {
  are : AreCaches l.mutator l.given l.programs.items;
  few : l.given ≤ most_commands;
}
