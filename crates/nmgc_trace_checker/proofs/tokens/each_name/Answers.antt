use Rattle.nmgc_trace_checker.proofs.{Vocabulary.sym, Vocabulary.◌∙◌, Vocabulary.name_at, Each.goes_on, Each.ends, Each.is_done}
use Rattle.nmgc_trace_checker.proofs.tokens.each_name.Goals as goal

pub returns-in_default : goal.returns-in_default
returns-in_default c =
    ends (λ w. w.now) name_at c.args.words.now c.loop-word.word-index c.loop-word.names _ _ c.loop-word-test.true
    (sym c.read_name.ensures.exact ∙ c.in_default.is) c.loop-word.invariant

pub loop-word-preserved : goal.loop-word-preserved
loop-word-preserved c =
    rw c.in_ok-push.ensures.ok (goes_on (λ w. w.now) name_at c.args.words.now c.loop-word.word-index c.loop-word.names _ _ c.in-Some.name
    c.loop-word-test.true (sym c.read_name.ensures.exact ∙ c.in-Some.is) c.loop-word.invariant)

pub returns : goal.returns
returns c = is_done (λ w. w.now) name_at c.args.words.now c.loop-word.word-index c.loop-word.names _ c.loop-word-test.false c.loop-word.invariant
