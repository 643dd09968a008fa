use Rattle.nmgc_field_checker.proofs.{Vocabulary.Joins, Vocabulary.List, Vocabulary.refl, Vocabulary.subst, Vocabulary.◌∙◌, Vocabulary.take_all, Vocabulary.ℕ, SetLaws.grows_more, SetLaws.grows_none, SetLaws.joins_next, SetLaws.joins_none}
use Rattle.nmgc_field_checker.proofs.object_set.ObjectSet.extend.Goals as goal

pub loop-object-init : goal.loop-object-init
loop-object-init c = record { joins = joins_none c.args.self.now; bound = refl; grows = grows_none c.args.self.now.items }

pub loop-object-preserved : goal.loop-object-preserved
loop-object-preserved c = record {
  joins = joins_next c.args.self.now c.loop-object.self c.add.new.self c.args.objects.now c.loop-object.object-index 0
      c.loop-object-test.true c.loop-object.invariant.joins c.in_ok-add.ensures.joins;
  grows = grows_more c.args.self.now.items c.loop-object.self.items c.add.new.self.items c.loop-object.invariant.grows c.add.ensures.grows;
  bound = c.add.ensures.bound ∙ c.loop-object.invariant.bound;
}

pub returns-clause-joins : goal.returns-clause-joins
returns-clause-joins c =
    subst (λ (l : List ℕ). Joins c.args.self.now l c.loop-object.self) (take_all c.loop-object.object-index c.args.objects.now c.loop-object-test.false)
    c.loop-object.invariant.joins
