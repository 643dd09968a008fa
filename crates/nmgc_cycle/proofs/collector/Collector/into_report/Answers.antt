use Rattle.nmgc_cycle.proofs.{Vocabulary.◌∙◌, Vocabulary.sym, Vocabulary.subst, Vocabulary.IsLawfulAtStop, Vocabulary.plan_of, stops.Observing.same_all, stops.Reported.kept_of, stops.Reported.reported, stops.Reported.words_had}
use Rattle.nmgc_cycle.proofs.collector.Collector.into_report.Goals as goal

pub unwrap-requires : goal.unwrap-requires
unwrap-requires c = (kept_of c.requires.ended.0 c.args.self c.args.end c.requires.ended.1).has_words

pub returns-clause-parts : goal.returns-clause-parts
returns-clause-parts c =
    same_all c.args.self c.args.end _ _ _ _ _ _ c.requires.kept.0 c.requires.kept.1 (c.into_rows-cycles.ensures ∙ c.requires.kept.2)
    (c.of_table.ensures ∙ c.close-words.ensures.words ∙ words_had c.args.self.heap.words c.unwrap.result c.unwrap.ensures)
    (c.from_vec_in.ensures ∙ c.all_ends-ends.ensures)
    c.into_names.ensures

pub returns-clause-reported : goal.returns-clause-reported
returns-clause-reported c = λ script ended.
    subst (IsLawfulAtStop (plan_of script)) (sym (same_all c.args.self c.args.end _ _ _ _ _ _ c.requires.kept.0 c.requires.kept.1 (c.into_rows-cycles.ensures ∙ c.requires.kept.2)
    (c.of_table.ensures ∙ c.close-words.ensures.words ∙ words_had c.args.self.heap.words c.unwrap.result c.unwrap.ensures)
    (c.from_vec_in.ensures ∙ c.all_ends-ends.ensures)
    c.into_names.ensures)) (reported script c.args.self c.args.end ended)
