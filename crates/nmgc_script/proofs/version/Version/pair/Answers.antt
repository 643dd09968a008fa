use Rattle.nmgc_script.proofs.{Vocabulary.err_from_is_err_and, Vocabulary.operand_at, Each.both_read, Each.first_fails, Each.second_fails}
use Rattle.nmgc_script.proofs.version.Version.pair.Goals as goal

pub returns-in_err-first : goal.returns-in_err-first
returns-in_err-first c =
    let p = err_from_is_err_and c.from_residual.result c.from_residual.ensures.1 in
    rw (p.1, p.2) (first_fails (operand_at c.args.self) c.args.first.now c.args.second.now _ c.in_err-first.ensures)

pub returns-in_err-second : goal.returns-in_err-second
returns-in_err-second c =
    let p = err_from_is_err_and c.from_residual-in_err-second.result c.from_residual-in_err-second.ensures.1 in
    rw (p.1, p.2) (second_fails (operand_at c.args.self) c.args.first.now c.args.second.now c.in_ok-first.first _ c.in_ok-first.ensures c.in_err-second.ensures)

pub returns : goal.returns
returns c = rw c.pair.ensures (both_read (operand_at c.args.self) c.args.first.now c.args.second.now c.in_ok-first.first c.in_ok-second.second
    c.in_ok-first.ensures c.in_ok-second.ensures)
