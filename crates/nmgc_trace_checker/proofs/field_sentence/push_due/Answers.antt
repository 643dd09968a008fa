use Rattle.std.specs.Option.{option_map}
use Rattle.nmgc_trace_checker.specs.FieldSentences.{about_name, line_text}
use Rattle.nmgc_trace_checker.proofs.{Vocabulary.[], Vocabulary.codes, Vocabulary.on_ok_weaker, Vocabulary.string_bytes, Appended.pushed_three}
use Rattle.nmgc_trace_checker.proofs.field_sentence.push_due.Goals as goal

pub returns : goal.returns
returns c =
    on_ok_weaker c.push_text.result (λ e. pushed_three c.args.out.now.items (about_name [] c.args.name.now (codes " is due since "))
    (line_text c.args.debt.line (option_map string_bytes c.args.since.now)) (codes ", and nobody remembered it") _ _ _
    c.in_ok-push_about_name.ensures c.in_ok-push_line.ensures e) c.push_text.ensures
