use Rattle.nmgc_trace_checker.proofs.{Vocabulary.◌≡◌, Vocabulary.◌∙◌, Vocabulary.sym, Vocabulary.subst, Vocabulary.List, Vocabulary.ℕ, Vocabulary.true, Vocabulary.false, Vocabulary.bytes_eq, Vocabulary.is_not, Answering.found_answer, Answering.no_sign, Answering.is_so}
use Rattle.nmgc_trace_checker.proofs.commands.split_answer.Goals as goal

pub returns-then-ne-clause-none : goal.returns-then-ne-clause-none
returns-then-ne-clause-none c =
    no_sign c.args.words.now c.in-Some.front.now c.in-Some-split_last.command.now c.in-Some.answer.now c.in-Some-split_last.sign.now
    c.in-Some.ensures.cases.0 c.in-Some-split_last.ensures.cases.0
    (subst (λ (l : List ℕ). bytes_eq c.in-Some-split_last.sign.now.now l ≡ false) c.as_slice.ensures
    (is_not (bytes_eq c.in-Some-split_last.sign.now.now c.as_slice.result.now) (sym c.ne.ensures ∙ c.if-ne.true)))

pub returns-clause-some : goal.returns-clause-some
returns-clause-some c =
    found_answer c.args.words.now c.in-Some.front.now c.in-Some-split_last.command.now c.in-Some.answer.now c.in-Some-split_last.sign.now
    c.in-Some.ensures.cases.0 c.in-Some-split_last.ensures.cases.0
    (subst (λ (l : List ℕ). bytes_eq c.in-Some-split_last.sign.now.now l ≡ true) c.as_slice.ensures
    (is_so (bytes_eq c.in-Some-split_last.sign.now.now c.as_slice.result.now) (sym c.ne.ensures ∙ c.if-ne.false)))
