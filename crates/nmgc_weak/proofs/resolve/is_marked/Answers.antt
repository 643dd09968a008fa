use Rattle.std.proofs.Common.{refl}
use Rattle.nmgc_segment.specs.Invariant.{IsMarked}
use Rattle.nmgc_weak.proofs.{Knowing.block_known, Vocabulary.nth}
use Rattle.nmgc_weak.proofs.resolve.is_marked.Goals as goal

pub returns-in-Some : goal.returns-in-Some
returns-in-Some c = block_known (λ segment block.
    IsMarked segment c.args.epoch block) c.args.segments.now c.in-Some.number c.in-Some.block c.args.at.0
    (nth c.args.segments.now.segments c.in-Some.number) c.is_marked.result c.layout.ensures.sound c.in-Some.ensures.some refl c.is_marked.ensures
