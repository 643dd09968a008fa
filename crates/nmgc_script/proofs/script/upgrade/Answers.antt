use Rattle.nmgc_script.proofs.Vocabulary.{ℕ, sym, subst, Script, FitsScript, upgraded_fits}
use Rattle.nmgc_script.proofs.script.upgrade.Goals as goal

pub returns-clause-fits : goal.returns-clause-fits
returns-clause-fits c = λ fits.
    let script = c.args.script in
    subst (λ (n : ℕ). FitsScript (let made : Script = record { version = n; config = script.config; threads = script.threads } in
    made)) (sym c.upgraded_number.ensures) (upgraded_fits script fits)
