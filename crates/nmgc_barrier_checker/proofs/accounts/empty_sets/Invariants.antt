use Rattle.nmgc_barrier_checker.proofs.Vocabulary.{◌≡◌, length, false, All, Name, HasPlaces, mark_of}
use Rattle.nmgc_barrier_checker.proofs.accounts.empty_sets.Given as goal

abbrev pub invariant-loop : goal.invariant-loop
invariant-loop l = record {
  count : length l.sets ≡ l.counter;
  places : All (HasPlaces l.snapshot) l.sets;
  free : All (λ set. (name : Name) → mark_of set name ≡ false) l.sets;
}
