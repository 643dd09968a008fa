use Rattle.std.proofs.Common.{◌≡◌, length}
use Rattle.nmgc_fin.specs.Handles.{AreNumbered}
use Rattle.nmgc_fin_program.proofs.tests.make_jobs.Given as goal

abbrev pub invariant-loop-number : goal.invariant-loop-number
invariant-loop-number l = record {
  numbered : AreNumbered l.all.items;
  count : length l.all.items ≡ l.number;
}
