use Rattle.nmgc_field_checker.proofs.{Vocabulary.Contains, Vocabulary.FieldStore, Vocabulary.IsEarliestIf, Vocabulary.store_line, Vocabulary.take, EarliestLaws.Among}
use Rattle.nmgc_field_checker.proofs.stores.Stores.first_outside.Given as goal

abbrev pub invariant-loop-store : goal.invariant-loop-store
invariant-loop-store l = IsEarliestIf store_line (Among (λ (s : FieldStore). Contains l.kept.items s.object → ⊥) (take l.store-index l.store-items)) l.least
