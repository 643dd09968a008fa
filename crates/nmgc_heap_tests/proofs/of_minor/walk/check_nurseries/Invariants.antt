use Rattle.nmgc_heap_tests.proofs.Vocabulary.{ℕ, ◌≡◌, ◌<◌, ◌≤◌, ◌+◌, nursery_place, nursery_at}
use Rattle.nmgc_heap_tests.proofs.of_minor.walk.check_nurseries.Given as goal

abbrev pub invariant-loop-maker : goal.invariant-loop-maker
invariant-loop-maker g l = record {
  places : (m : ℕ) → m < l.maker → (nursery_at l.nurseries m).base ≡ nursery_place l.layout m;
  tops : (m : ℕ) → m < l.maker → ((nursery_at l.nurseries m).base ≤ (nursery_at l.nurseries m).top) ×
      ((nursery_at l.nurseries m).top ≤ (nursery_at l.nurseries m).base + l.layout.nursery);
}
