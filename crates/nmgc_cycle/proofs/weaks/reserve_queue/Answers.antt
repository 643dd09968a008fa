use Rattle.nmgc_cycle.proofs.Vocabulary.{refl, arith, on_ok_weaker}
use Rattle.nmgc_cycle.proofs.weaks.reserve_queue.Goals as goal

-- the number is the row's, and not below the number of those that it made
pub returns : goal.returns
returns c =
    let counted = c.count_bound.ensures in
    let converted = c.in-Ok.ensures.1 in
    on_ok_weaker c.reserve.result (λ room. record { rest = refl; words = c.reserve.ensures.words; room = omega (arith, counted, converted, room) })
    c.reserve.ensures.room
