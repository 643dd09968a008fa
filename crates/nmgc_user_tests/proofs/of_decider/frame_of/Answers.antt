use Rattle.std.proofs.Common.{arith}
use Rattle.nmgc_limits.specs.Limits.{most_segment_words}
use Rattle.nmgc_decider.specs.laws.Ready.{ready_new}
use Rattle.nmgc_user_tests.proofs.of_decider.frame_of.Goals as goal

pub returns-clause-ready : goal.returns-clause-ready
returns-clause-ready c =
    let slots = c.new-frame.ensures.slots in
    let left = c.new.ensures.left in
    ready_new _ _ c.new.result _ c.new.ensures.waiting tt (c.make.ensures.fits most_segment_words (omega (arith, slots, c))) (omega arith) (omega (arith, left, c))
