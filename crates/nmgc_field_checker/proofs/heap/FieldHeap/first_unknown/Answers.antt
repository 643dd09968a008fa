use Rattle.nmgc_field_checker.proofs.{Vocabulary.Has, Vocabulary.never, Vocabulary.refl, Vocabulary.ℕ, FirstLaws.first_here, FirstLaws.none_all, FirstLaws.none_more, FirstLaws.none_yet}
use Rattle.nmgc_field_checker.proofs.heap.FieldHeap.first_unknown.Goals as goal

pub loop-object-init : goal.loop-object-init
loop-object-init c = none_yet (λ (n : ℕ). Has c.args.self.now n → ⊥) c.args.objects.now

pub loop-object-preserved : goal.loop-object-preserved
loop-object-preserved c =
    none_more (λ (n : ℕ). Has c.args.self.now n → ⊥) c.args.objects.now c.loop-object.object-index 0 c.loop-object-test.true c.loop-object.invariant (λ out. out (c.if-not-has.ensures.0 refl))

pub returns-then-not-has : goal.returns-then-not-has
returns-then-not-has c =
    first_here (λ (n : ℕ). Has c.args.self.now n → ⊥) c.args.objects.now c.loop-object.object-index 0 c.loop-object-test.true c.loop-object.invariant (λ h. never (c.if-not-has.ensures.1 h))

pub returns : goal.returns
returns c = none_all (λ (n : ℕ). Has c.args.self.now n → ⊥) c.args.objects.now c.loop-object.object-index c.loop-object-test.false c.loop-object.invariant
