use Rattle.nmgc_cli.proofs.{Vocabulary.◌∙◌, Vocabulary.List, Vocabulary.ap, Vocabulary.IfOk-weaker, Vocabulary.Name, Vocabulary.marks_lines, Marked.marks_are}
use Rattle.nmgc_cli.proofs.marks.marks_text.Goals as goal

pub returns : goal.returns
returns g c =
    IfOk-weaker c.lines.result _ _ (λ text is.
    marks_are c.roots_start_strong_reach.ensures c.args.report.now c.args.markers c.in_ok-claims.claims.by c.in_ok-names.names text.items c.in_ok-claims.ensures c.in_ok-names.ensures
    (is ∙ ap (λ (names : List Name). marks_lines c.args.markers names c.args.report.now.end) c.items.ensures)) c.lines.ensures
