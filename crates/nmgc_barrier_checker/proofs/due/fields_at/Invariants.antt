use Rattle.nmgc_barrier_checker.proofs.Vocabulary.{◌≡◌, ◌≤◌, ◌<◌, true, Contains, Field, stands_in}
use Rattle.nmgc_barrier_checker.proofs.due.fields_at.Given as goal

abbrev pub invariant-loop-place : goal.invariant-loop-place
invariant-loop-place l = record {
  sound : (f : Field) → Contains l.fields f → (stands_in l.snapshot f ≡ true) × (stands_in l.world f ≡ true);
  all : (f : Field) → f.name ≡ l.name → l.first ≤ f.place → f.place < l.place → stands_in l.snapshot f ≡ true → stands_in l.world f ≡ true →
      Contains l.fields f;
}
