use Rattle.nmgc_trace_checker.proofs.{Vocabulary.[], Vocabulary.refl, Vocabulary.◌∷◌, Vocabulary.err_from_is_err_and, Outputs.gravest_one}
use Rattle.nmgc_trace_checker.proofs.program.write_fixed.Goals as goal

pub returns : goal.returns
returns g c =
    (c.args.text.now, c.args.status ∷ [], (refl, refl), gravest_one c.args.status, c.in_ok-write_all.ensures.ok, c.write_all.ensures.later)

pub returns-in_err-write_all : goal.returns-in_err-write_all
returns-in_err-write_all g c =
    let p = err_from_is_err_and c.from_residual.result c.from_residual.ensures.1 in
    rw p.1 (c.args.text.now, c.args.status ∷ [], (refl, refl), c.in_err-write_all.ensures.err, c.in_err-write_all.ensures.fault)
