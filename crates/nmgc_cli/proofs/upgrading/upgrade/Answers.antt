use Rattle.nmgc_cli.proofs.{Vocabulary.List, Vocabulary.ℕ, Vocabulary.subst, Vocabulary.arith, Vocabulary.err_from_is_err_and, Vocabulary.AnswersBytes, Vocabulary.IsUpgraded, Answering.read_answers, Answering.unread_answers}
use Rattle.nmgc_cli.proofs.upgrading.upgrade.Goals as goal

pub returns-in_err-bytes : goal.returns-in_err-bytes
returns-in_err-bytes g c =
    let p = err_from_is_err_and c.from_residual.result c.from_residual.ensures.1 in
    let e = c.in_err-bytes.ensures in
    rw (p.1, p.2) (unread_answers IsUpgraded _ _ _ _ e.too_long e.not_too_long e.fault)

pub returns : goal.returns
returns g c =
    let e = c.in_ok-bytes.ensures in
    let long = c.in_ok-bytes.bytes.ok.0 in
    read_answers IsUpgraded _ _ _ c.in_ok-bytes.bytes.items c.upgrade_bytes.result (record { taken = e.bytes; end = e.end; within = omega (arith, long, e.within) })
    (subst (λ (bytes : List ℕ). AnswersBytes IsUpgraded bytes c.upgrade_bytes.result) c.deref.ensures.value c.upgrade_bytes.ensures)
