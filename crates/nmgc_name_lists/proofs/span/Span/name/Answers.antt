use Rattle.nmgc_name_lists.proofs.Vocabulary.{arith, span_at, span_length}
use Rattle.nmgc_name_lists.proofs.span.Span.name.Goals as goal

pub overflow_add-serial : goal.overflow_add-serial
overflow_add-serial c =
    let span = c.args.self.now in
    let many = span_length span.maker span.first span.count in
    let within = c.requires in
    let fits = span.fits in
    omega (arith, many, within, fits)

pub returns : goal.returns
returns c =
    let span = c.args.self.now in
    let many = span_length span.maker span.first span.count in
    let within = c.requires in
    span_at span.maker span.first span.count c.args.at (omega (arith, many, within))
