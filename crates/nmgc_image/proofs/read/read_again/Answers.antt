use Rattle.nmgc_image.proofs.{Vocabulary.ℕ, Vocabulary.List, Vocabulary.subst, Vocabulary.err_from_is_err_and, Vocabulary.test_of, Vocabulary.AreRead, Answered.lost_answer}
use Rattle.nmgc_image.proofs.read.read_again.Goals as goal

pub returns-in_err-reader : goal.returns-in_err-reader
returns-in_err-reader c =
    let p = err_from_is_err_and c.from_residual.result c.from_residual.ensures.1 in
    rw (p.1, p.2) (lost_answer c.args.bytes.now)

pub returns : goal.returns
returns c =
    let d = test_of c.args.known.now in
    c.answer.ensures c.args.bytes.now d c.requires.agrees (subst (λ (l : List ℕ).
    AreRead d l c.in_ok-reader.reader c.read_lines.new.lines.number c.read_lines.new.lines.rest.now) c.new-lines.ensures.rest c.in_ok-reader.ensures)
