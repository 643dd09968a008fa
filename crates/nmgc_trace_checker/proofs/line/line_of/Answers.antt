use Rattle.nmgc_trace_checker.proofs.{Vocabulary.◌≡◌, Vocabulary.◌∙◌, Vocabulary.map, Vocabulary.sym, Vocabulary.ap, Vocabulary.false, Vocabulary.tokens_of, Vocabulary.is_blank_or_comment, LineSayings.line_says}
use Rattle.nmgc_trace_checker.proofs.line.line_of.Goals as goal

pub returns-then-is_blank_or_comment : goal.returns-then-is_blank_or_comment
returns-then-is_blank_or_comment c = sym (c.is_blank_or_comment.ensures ∙ ap is_blank_or_comment c.as_bytes-line.ensures.value) ∙ c.if-is_blank_or_comment.true

pub returns : goal.returns
returns c =
    let kept : is_blank_or_comment c.args.text.now ≡ false = sym (c.is_blank_or_comment.ensures ∙ ap is_blank_or_comment c.as_bytes-line.ensures.value) ∙ c.if-is_blank_or_comment.false in
    line_says c.args.text.now (map (λ w. w.now) c.as_slice.result.now) c.in_ok-said.said kept
    (ap (λ words. map (λ w. w.now) words) c.as_slice.ensures.value ∙ c.in_ok-cut_tokens.ensures ∙ ap tokens_of c.as_bytes-line.ensures.value)
    c.in_ok-said.ensures
