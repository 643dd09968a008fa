use Rattle.nmgc_field_checker.proofs.{Vocabulary.IsNotKept, Vocabulary.never, Vocabulary.refl, Vocabulary.ℕ, FirstLaws.first_here, FirstLaws.none_all, FirstLaws.none_more, FirstLaws.none_yet}
use Rattle.nmgc_field_checker.proofs.result.FieldResult.first_not_kept.Goals as goal

pub loop-object-init : goal.loop-object-init
loop-object-init c = none_yet (IsNotKept c.args.self.now) c.args.objects.now

pub loop-object-preserved : goal.loop-object-preserved
loop-object-preserved c =
    none_more (IsNotKept c.args.self.now) c.args.objects.now c.loop-object.object-index 0 c.loop-object-test.true c.loop-object.invariant (λ p. never (c.if-is_not_kept.ensures.1 p))

pub returns-then-is_not_kept : goal.returns-then-is_not_kept
returns-then-is_not_kept c =
    first_here (IsNotKept c.args.self.now) c.args.objects.now c.loop-object.object-index 0 c.loop-object-test.true c.loop-object.invariant (c.if-is_not_kept.ensures.0 refl)

pub returns : goal.returns
returns c = none_all (IsNotKept c.args.self.now) c.args.objects.now c.loop-object.object-index c.loop-object-test.false c.loop-object.invariant
