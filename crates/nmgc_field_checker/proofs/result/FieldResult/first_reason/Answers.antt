use Rattle.nmgc_field_checker.proofs.{Vocabulary.MayGo, Vocabulary.get_or, Vocabulary.ℕ, FirstLaws.all_all, FirstLaws.all_more, FirstLaws.all_yet, FirstLaws.first_here, ReportLaws.not_go}
use Rattle.nmgc_field_checker.proofs.result.FieldResult.first_reason.Goals as goal

pub loop-object-init : goal.loop-object-init
loop-object-init c = all_yet (MayGo c.args.self.now)

pub loop-object-preserved : goal.loop-object-preserved
loop-object-preserved c =
    all_more (MayGo c.args.self.now) c.args.objects.now c.loop-object.object-index 0 c.loop-object-test.true c.loop-object.invariant c.in-None.ensures

pub returns-in-Some : goal.returns-in-Some
returns-in-Some c =
    let object = get_or c.args.objects.now c.loop-object.object-index 0 in (
      object,
      first_here (λ (n : ℕ). MayGo c.args.self.now n → ⊥) c.args.objects.now c.loop-object.object-index 0 c.loop-object-test.true
          (λ item c' p. p (c.loop-object.invariant item c')) (not_go c.args.self.now object c.in-Some.why c.in-Some.ensures),
      c.in-Some.ensures,
    )

pub returns : goal.returns
returns c = all_all (MayGo c.args.self.now) c.args.objects.now c.loop-object.object-index c.loop-object-test.false c.loop-object.invariant
