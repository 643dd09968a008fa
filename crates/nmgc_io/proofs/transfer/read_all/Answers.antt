use Rattle.std.proofs.Common.{arith, length-take}
use Rattle.nmgc_io.proofs.Known.{takes_on}
use Rattle.nmgc_io.proofs.transfer.read_all.Goals as goal

pub returns-then-len-count-clause-too_long : goal.returns-then-len-count-clause-too_long
returns-then-len-count-clause-too_long g c _ =
    let t = takes_on _ _ _ _ _ _ c.loop-count.invariant.taken c.in-Ok.ensures.bound.0 c.in-Ok.ensures.bytes.0 in
    (t.0, t.1, omega (arith, t.2, length-take c.min-room.result c.loop-count.piece, c.in-Ok.ensures.bound.0, c.read.auto.buf))

pub returns-then-is_err-clause-not_too_long : goal.returns-then-is_err-clause-not_too_long
returns-then-is_err-clause-not_too_long g c _ =
    let t = takes_on _ _ _ _ _ _ c.loop-count.invariant.taken c.in-Ok.ensures.bound.0 c.in-Ok.ensures.bytes.0 in
    (t.0, t.1, omega (arith, t.2, length-take c.min-room.result c.loop-count.piece, c.in-Ok.ensures.bound.0, c.read.auto.buf))
