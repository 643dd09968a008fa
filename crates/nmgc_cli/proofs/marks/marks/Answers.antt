use Rattle.nmgc_cli.proofs.Vocabulary.{ap, sym, subst, text_bytes, IsMarksText, Output}
use Rattle.nmgc_cli.proofs.marks.marks.Goals as goal

pub marks_text-requires-clause-script : goal.marks_text-requires-clause-script
marks_text-requires-clause-script g c κs within = let given = c.in_ok-report.ensures.2 in
    record { script = given.0; limits = given.2.limits; run = given.2.run }

pub returns : goal.returns
returns g c = (
  c.in_ok-report.report,
  c.in_ok-report.ensures,
  record {
    status = ap (λ (o : Output). o.status) c.of_report.ensures;
    report_is = ap (λ (o : Output). o.report) c.of_report.ensures;
    text = subst (λ (o : Output). IsMarksText c.args.markers c.in_ok-report.report (text_bytes o.text)) (sym c.of_report.ensures) c.in_ok-text.ensures;
  },
)
