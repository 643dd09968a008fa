use Rattle.nmgc_cycle.proofs.Vocabulary.{ℕ, ◌≡◌, length, Some, slice_get}
use Rattle.nmgc_mutator.specs.declared.program.Listed.{Listed}
use Rattle.nmgc_cycle.specs.Programs.{IsListed}
use Rattle.nmgc_cycle.proofs.round.listed.Given as goal

abbrev pub invariant-loop-number : goal.invariant-loop-number
invariant-loop-number l = record {
  count : length l.programs.items ≡ l.number;
  each : (k : ℕ) (p : Listed) → slice_get l.programs.items k ≡ Some p → IsListed l.script l.positions k p;
}
