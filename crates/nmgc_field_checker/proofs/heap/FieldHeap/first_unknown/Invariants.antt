use Rattle.nmgc_field_checker.proofs.{Vocabulary.Has, Vocabulary.take, Vocabulary.ℕ, FirstLaws.NoneIn}
use Rattle.nmgc_field_checker.proofs.heap.FieldHeap.first_unknown.Given as goal

abbrev pub invariant-loop-object : goal.invariant-loop-object
invariant-loop-object l = NoneIn (λ (n : ℕ). Has l.self n → ⊥) (take l.object-index l.objects)
