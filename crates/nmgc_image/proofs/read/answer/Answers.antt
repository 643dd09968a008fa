use Rattle.nmgc_image.proofs.{Vocabulary.refl, Vocabulary.false≢true, Answered.bad_answer, Answered.whole_answer}
use Rattle.nmgc_image.proofs.read.answer.Goals as goal

pub returns-then-not-is_whole : goal.returns-then-not-is_whole
returns-then-not-is_whole c = λ bytes d agrees read.
    bad_answer bytes d agrees c.args.reader c.args.lines.now.number c.args.lines.now.rest.now read (λ whole. false≢true (c.if-not-is_whole.ensures.1 whole))

pub returns : goal.returns
returns c = λ bytes d agrees read.
    let whole = c.if-not-is_whole.ensures.0 refl in
    whole_answer bytes d agrees c.args.reader c.args.lines.now.number c.args.lines.now.rest.now read whole.0 whole.1 c.image_of.result
    c.image_of.ensures.ok c.image_of.ensures.err
