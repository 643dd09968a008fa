use Rattle.nmgc_image.proofs.{Vocabulary.◌≡◌, Vocabulary.◌∙◌, Vocabulary.map, Vocabulary.ap, Vocabulary.refl, Vocabulary.err_from_is_err_and, Vocabulary.test_of, Vocabulary.tokens_of, Steps.none_stuck, Steps.line_step, Steps.line_fails}
use Rattle.nmgc_image.proofs.front.take_by_tokens.Goals as goal

pub returns-in_default : goal.returns-in_default
returns-in_default c = (none_stuck (test_of c.args.known.now) c.args.reader.now c.args.lines.now.rest.now c.in_default.ensures.none, refl, refl)

pub returns-in_err-take_line : goal.returns-in_err-take_line
returns-in_err-take_line c =
    let tokens : map (λ w. w.now) c.deref.result.now ≡ tokens_of c.in-Some.line.now = ap (map (λ w. w.now)) c.deref.ensures.value ∙ c.in_ok-cut_tokens.ensures in
    let p = err_from_is_err_and c.from_residual-in_err-take_line.result c.from_residual-in_err-take_line.ensures.1 in
    rw (p.1, p.2) (line_fails (test_of c.args.known.now) _ c.args.reader.now c.take_line.new.self c.args.lines.now c.in-Some.line.now
    c.in-Some.after.now (map (λ w. w.now) c.deref.result.now) c.in-Some.ensures.line tokens c.in_err-take_line.ensures)

pub returns : goal.returns
returns c =
    let tokens : map (λ w. w.now) c.deref.result.now ≡ tokens_of c.in-Some.line.now = ap (map (λ w. w.now)) c.deref.ensures.value ∙ c.in_ok-cut_tokens.ensures in (
      line_step (test_of c.args.known.now) c.args.reader.now c.take_line.new.self c.args.lines.now c.pass.new.self c.in-Some.line.now
          c.in-Some.after.now (map (λ w.
          w.now) c.deref.result.now) c.in-Some.ensures.line c.in-Some.ensures.rest c.in-Some.ensures.less tokens c.in_ok-take_line.ensures
          c.pass.ensures.rest,
      c.pass.ensures.number,
    )
