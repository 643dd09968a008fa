use Rattle.std.specs.{Prelude.decimal, Option.option_map}
use Rattle.nmgc_trace_checker.specs.Texts.{bracketed}
use Rattle.nmgc_trace_checker.proofs.{Vocabulary.codes, Vocabulary.on_ok_weaker, Vocabulary.string_bytes, Appended.pushed_three}
use Rattle.nmgc_trace_checker.proofs.field_sentence.push_line.Goals as goal

pub returns : goal.returns
returns c =
    on_ok_weaker c.push_bracketed.result (λ e. pushed_three c.args.out.now.items (codes "line ") (decimal c.args.line)
    (bracketed (option_map string_bytes c.args.text.now)) _ _ _ c.in_ok-push_text.ensures c.in_ok-push_number.ensures.ok e) c.push_bracketed.ensures
