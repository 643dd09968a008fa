use Rattle.std.proofs.Common.{arith}
use Rattle.nmgc_image.proofs.PlainLaws.{dotted_text}
use Rattle.nmgc_image.proofs.plain.Cursor.name_of.Goals as goal

pub returns-clause-text : goal.returns-clause-text
returns-clause-text c = dotted_text (record {
  maker = c.args.maker;
  serial = c.in_ok-serial.serial;
}) _ _ _ (omega arith) c.in_ok-pass.ensures c.in_ok-serial.ensures.text

pub returns-clause-valid : goal.returns-clause-valid
returns-clause-valid c = (omega arith, omega arith, λ e. absurd (omega arith))
