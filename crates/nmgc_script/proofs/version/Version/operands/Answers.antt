use Rattle.nmgc_script.proofs.{Vocabulary.err_from_is_err_and, Vocabulary.operand_at, Each.goes_on, Each.fails, Each.is_done}
use Rattle.nmgc_script.proofs.version.Version.operands.Goals as goal

pub returns-in_err-operand : goal.returns-in_err-operand
returns-in_err-operand c =
    let p = err_from_is_err_and c.from_residual.result c.from_residual.ensures.1 in
    rw (p.1, p.2) (fails (λ w.
    w.now) (operand_at c.args.self) c.args.tokens.now c.loop-word.word-index c.loop-word.operands _ _ _ c.loop-word-test.true
    c.in_err-operand.ensures c.loop-word.invariant)

pub loop-word-preserved : goal.loop-word-preserved
loop-word-preserved c =
    rw c.in_ok-push.ensures.ok (goes_on (λ w.
    w.now) (operand_at c.args.self) c.args.tokens.now c.loop-word.word-index c.loop-word.operands _ _ c.in_ok-operand.field-0
    c.loop-word-test.true c.in_ok-operand.ensures c.loop-word.invariant)

pub returns : goal.returns
returns c = is_done (λ w.
    w.now) (operand_at c.args.self) c.args.tokens.now c.loop-word.word-index c.loop-word.operands _ c.loop-word-test.false c.loop-word.invariant
