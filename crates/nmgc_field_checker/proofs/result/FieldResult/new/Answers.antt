use Rattle.nmgc_field_checker.proofs.{Vocabulary.All-contains, Vocabulary.Contains, Vocabulary.List, Vocabulary.subst, Vocabulary.sym, Vocabulary.ℕ, Vocabulary.◌<◌}
use Rattle.nmgc_field_checker.proofs.result.FieldResult.new.Goals as goal

pub invariant_of-result : goal.invariant_of-result
invariant_of-result c = λ object kept.
    subst (λ (n : ℕ). object < n) c.requires (All-contains (λ (n : ℕ). n < c.args.kept.bound) c.items.result.now object c.items.ensures.below
    (subst (λ (l : List ℕ). Contains l object) (sym c.items.ensures.items) kept))
