use Rattle.nmgc_cycle.proofs.{Vocabulary.◌∙◌, Vocabulary.ap, Vocabulary.false, Vocabulary.Report, Vocabulary.all_replies, Vocabulary.lawful_are_of_runs, Vocabulary.script_of, Vocabulary.stop_is_lawful, stops.Observing.kept_rows}
use Rattle.nmgc_cycle.proofs.collector.Collector.run_programs.Goals as goal

pub into_report-requires-clause-ended : goal.into_report-requires-clause-ended
into_report-requires-clause-ended g c =
    let ran = c.in-Ok.ensures.ok.0 in
    (script_of g.P.Program.next c.args.config.now ran.given c.run_programs_observed.new.programs, ran.ended)

pub into_report-requires-clause-kept : goal.into_report-requires-clause-kept
into_report-requires-clause-kept g c = kept_rows c.new-kept.result c.run_programs_observed.new.observer c.in-Ok.ran.0 false c.new-kept.ensures c.in-Ok.ensures.ok.1

pub returns-clause-run : goal.returns-clause-run
returns-clause-run g c =
    let ran = c.in-Ok.ensures.ok.0 in
    let script = script_of g.P.Program.next c.args.config.now ran.given c.run_programs_observed.new.programs in
    let lawful = stop_is_lawful script c.into_report.result ran.limits (c.into_report.ensures.reported script ran.ended) in
    record {
      given = ran.given;
      gave = ran.gave;
      limits = ran.limits;
      run = (lawful_are_of_runs script c.into_report.result ran.limits lawful).0;
      replies = λ k d e. ap (λ (r : Report). all_replies r.rounds k) c.into_report.ensures.parts ∙ ran.replies k d e;
    }
