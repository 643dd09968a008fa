use Rattle.nmgc_cli.proofs.{Vocabulary.IfOk-weaker, Vocabulary.threads_few, FewAnswers.few_answers}
use Rattle.nmgc_cli.proofs.bench.bench_report.Goals as goal

pub returns-clause-count : goal.returns-clause-count
returns-clause-count g c = IfOk-weaker c.run_script.result _ _ (λ report run.
    few_answers c.in_ok-script.script report (threads_few c.in_ok-script.script c.in_ok-script.ensures.fits) c.in_ok-script.ensures.few run.lawful)
    c.run_script.ensures
