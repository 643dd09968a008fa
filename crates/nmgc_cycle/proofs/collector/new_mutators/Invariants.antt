use Rattle.nmgc_cycle.proofs.Vocabulary.{◌≡◌, ℕ, [], length, Some, Mutator, IsNew, IsLined, slice_get}
use Rattle.nmgc_cycle.proofs.collector.new_mutators.Given as goal

abbrev pub invariant-loop-number : goal.invariant-loop-number
invariant-loop-number l = record {
  count : length l.mutators.items ≡ l.number;
  many : length l.receivers.items ≡ l.number;
  new : (k : ℕ) (m : Mutator) → slice_get l.mutators.items k ≡ Some m → IsNew k l.fn.layout m;
  lines : (k : ℕ) (m : Mutator) → slice_get l.mutators.items k ≡ Some m → IsLined l.receivers.items k m.sender;
  unsent : (k : ℕ) (m : Mutator) → slice_get l.mutators.items k ≡ Some m → m.sender.since ≡ [];
}
