use Rattle.nmgc_cycle.proofs.{Vocabulary.◌∙◌, Vocabulary.ap, Vocabulary.subst, Vocabulary.sym, Vocabulary.Collector, Vocabulary.HasEnded, Vocabulary.Report, Vocabulary.all_replies, Vocabulary.false, Vocabulary.lawful_are_of_runs, Vocabulary.report_cycles, Vocabulary.script_so_far, Vocabulary.stop_is_lawful, stops.Observing.kept_rows}
use Rattle.nmgc_cycle.proofs.program_run.ProgramRun.into_report.Goals as goal

pub into_report-requires-clause-ended : goal.into_report-requires-clause-ended
into_report-requires-clause-ended g c =
    let script = script_so_far g.P.Program.next c.args.self c.args.programs.now in
    (script, subst (λ (x : Collector). HasEnded script x c.args.end) (sym c.into_collector.ensures) c.requires.ended.1)

pub into_report-requires-clause-kept : goal.into_report-requires-clause-kept
into_report-requires-clause-kept g c =
    let k = c.requires.kept in
    let rows = kept_rows k.0 c.args.kept c.args.self.collector false (k.1, k.2, k.3) k.4 in (
      rows.0 ∙ ap (λ (x : Collector). x.rows.rounds) (sym c.into_collector.ensures),
      rows.1 ∙ ap (λ (x : Collector). x.rows.stops) (sym c.into_collector.ensures),
      rows.2 ∙ ap (λ (x : Collector). report_cycles x) (sym c.into_collector.ensures),
    )

pub returns : goal.returns
returns g c =
    let script = script_so_far g.P.Program.next c.args.self c.args.programs.now in
    let far = c.requires.ended.0 in
    let ended = subst (λ (x : Collector). HasEnded script x c.args.end) (sym c.into_collector.ensures) c.requires.ended.1 in
    let lawful = stop_is_lawful script c.into_report.result far.limits (c.into_report.ensures.reported script ended) in
    record {
      limits = far.limits;
      run = (lawful_are_of_runs script c.into_report.result far.limits lawful).0;
      replies = λ k d e. ap (λ (r : Report). all_replies r.rounds k) c.into_report.ensures.parts
          ∙ ap (λ (x : Collector). all_replies x.rows.rounds k) c.into_collector.ensures ∙ far.replies k d e;
    }
