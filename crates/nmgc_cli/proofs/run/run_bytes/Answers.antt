use Rattle.nmgc_cli.proofs.{Vocabulary.◌≤◌, Vocabulary.◌<◌, Vocabulary.List, Vocabulary.ℕ, Vocabulary.length, Vocabulary.subst, Vocabulary.arith, Vocabulary.err_from_is_err_and, Vocabulary.get_or-le-sum_by, Vocabulary.Command, Vocabulary.most_bytes, Vocabulary.IsRan, Answering.fault_answers}
use Rattle.nmgc_cli.proofs.run.run_bytes.Goals as goal

pub returns-then-is_too_long : goal.returns-then-is_too_long
returns-then-is_too_long g c = subst (λ (bytes : List ℕ). most_bytes bytes < length bytes) c.deref.ensures.value (c.is_too_long.ensures.long c.if-is_too_long.true)

pub returns-in_err-script : goal.returns-in_err-script
returns-in_err-script g c =
    let p = err_from_is_err_and c.from_residual.result c.from_residual.ensures.1 in
    let short = subst (λ (bytes : List ℕ). length bytes ≤ most_bytes bytes) c.deref.ensures.value (c.is_too_long.ensures.short c.if-is_too_long.false) in
    rw (p.1, p.2) (fault_answers IsRan c.args.bytes.items _ short (λ script spells. c.in_err-script.ensures.only script spells) c.in_err-script.ensures.reported)

pub returns : goal.returns
returns g c =
    let script = c.in_ok-script.script in
    let most = c.requires in
    let few = c.in_ok-script.ensures.few in
    let short = subst (λ (bytes : List ℕ). length bytes ≤ most_bytes bytes) c.deref.ensures.value (c.is_too_long.ensures.short c.if-is_too_long.false) in (
      script,
      record { short = short; spells = c.in_ok-script.ensures.found; only = λ other h. c.in_ok-script.ensures.only other h },
      record {
        limits = record {
          fits = c.in_ok-script.ensures.found.fits;
          few = λ i d lt. let one = get_or-le-sum_by (λ (program : List Command). length program) script.threads i d lt in omega (arith, one, few, most);
        };
        run = c.in_ok-run_script.ensures;
      },
    )
