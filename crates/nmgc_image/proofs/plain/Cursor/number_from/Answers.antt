use Rattle.std.proofs.Common.{arith}
use Rattle.nmgc_image.proofs.PlainLaws.{digit_more}
use Rattle.nmgc_image.proofs.plain.Cursor.number_from.Goals as goal

pub loop-next-preserved : goal.loop-next-preserved
loop-next-preserved c =
    let small = c.in-Some.ensures.digit in
    record {
      text = digit_more _ c.loop-next.self.rest.now c.in-Some.after.now c.loop-next.number c.in-Some.next (omega arith) small (omega (
        arith,
        small,
      )) c.loop-next.invariant.text c.in-Some.ensures.parts;
      small = omega (arith, small);
    }
