use Rattle.nmgc_retain.proofs.{Vocabulary.refl, Vocabulary.All-more, Vocabulary.AreHopsWithin, Items.all_done}
use Rattle.nmgc_retain.proofs.levels.are_all_hops_within.Goals as goal

pub loop-from-preserved : goal.loop-from-preserved
loop-from-preserved c =
    All-more (AreHopsWithin c.args.image.now c.args.levels.now) c.args.levels.now c.loop-from.from-index _ c.loop-from-test.true
    c.loop-from.invariant (c.if-not-are_hops_within.ensures.0 refl)

pub returns : goal.returns
returns c = all_done (AreHopsWithin c.args.image.now c.args.levels.now) c.args.levels.now c.loop-from.from-index c.loop-from-test.false c.loop-from.invariant
