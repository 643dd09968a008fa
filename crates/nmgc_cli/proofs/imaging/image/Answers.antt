use Rattle.nmgc_cli.proofs.Vocabulary.{ap, sym, subst, text_bytes, IsImageText, Output}
use Rattle.nmgc_cli.proofs.imaging.image.Goals as goal

pub image_of-requires : goal.image_of-requires
image_of-requires g c = let given = c.in_ok-report.ensures.2 in record { script = given.0; limits = given.2.limits; run = given.2.run }

pub returns : goal.returns
returns g c = (
  c.in_ok-report.report,
  c.in_ok-report.ensures,
  record {
    status = ap (λ (o : Output). o.status) c.of_report.ensures;
    report_is = ap (λ (o : Output). o.report) c.of_report.ensures;
    text = subst (λ (o : Output). IsImageText c.in_ok-report.report (text_bytes o.text)) (sym c.of_report.ensures) c.in_ok-text.ensures;
  },
)
