use Rattle.std.proofs.Common.{arith}
use Rattle.nmgc_limits.specs.Limits.{least_segment_words}
use Rattle.nmgc_decider.specs.laws.Ready.{ready_new}
use Rattle.nmgc_user_tests.proofs.of_parking.long_waiter.Goals as goal

pub returns-clause-ready : goal.returns-clause-ready
returns-clause-ready c =
    let left = c.new.ensures.left in
    ready_new _ _ c.new.result _ c.new.ensures.waiting tt (c.yield_now.ensures.fits least_segment_words (omega arith)) (omega arith) (omega (arith, left, c))
