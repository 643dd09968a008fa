use Rattle.nmgc_script.proofs.{Vocabulary.arith, Vocabulary.err_from_is_err_and, ShapeLaws.front_fails}
use Rattle.nmgc_script.proofs.version.Version.value_index_values.Goals as goal

pub returns-in_err-object : goal.returns-in_err-object
returns-in_err-object c =
    let p = err_from_is_err_and c.from_residual.result c.from_residual.ensures.1 in
    rw (p.1, p.2) (front_fails (λ w. w.now) _ _ _ _ c.args.tokens.now _ _ _ (omega (arith, c.in-len4.len_at_least)) (omega (
      arith,
      c.in-len4.len_below,
    )) c.in_err-object.ensures)
