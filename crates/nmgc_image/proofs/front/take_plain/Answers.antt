use Rattle.nmgc_image.proofs.{Vocabulary.err_from_is_err_and, Vocabulary.test_of, PlainLaws.plain_less, PlainLaws.plain_step, PlainLaws.plain_fails}
use Rattle.nmgc_image.proofs.front.take_plain.Goals as goal

pub returns-in_err-take_object : goal.returns-in_err-take_object
returns-in_err-take_object c =
    let p = err_from_is_err_and c.from_residual.result c.from_residual.ensures.1 in
    rw (p.1, p.2) (plain_fails c.args.lines.now c.args.lines.now c.args.entry c.args.after.now c.requires (test_of c.args.known.now) _
    c.args.reader.now c.take_object.new.self c.in_err-take_object.ensures)

pub pass-requires : goal.pass-requires
pass-requires c = plain_less c.args.lines.now c.args.lines.now c.args.entry c.args.after.now c.requires

pub returns : goal.returns
returns c = (
  plain_step c.args.lines.now c.pass.new.self c.args.entry c.args.after.now c.requires (test_of c.args.known.now) c.args.reader.now
      c.take_object.new.self c.in_ok-take_object.ensures c.pass.ensures.rest,
  c.pass.ensures.number,
)
