use Rattle.std.specs.{Prelude.decimal, Option.option_map}
use Rattle.nmgc_journal.specs.Text.{name_text}
use Rattle.nmgc_trace_checker.specs.Texts.{bracketed}
use Rattle.nmgc_trace_checker.proofs.{Vocabulary.codes, Vocabulary.string_bytes, Vocabulary.on_ok_weaker, Appended.pushed_six}
use Rattle.nmgc_trace_checker.proofs.sentence.push_debt.Goals as goal

pub returns : goal.returns
returns c =
    on_ok_weaker c.push_text-3.result (λ e. pushed_six c.args.out.now.items (codes "can't happen: ") (name_text c.args.debt.name) (codes " is due since line ")
    (decimal c.args.debt.line) (bracketed (option_map string_bytes c.args.since.now)) (codes ", and nobody remembered it") _ _ _ _ _ _
    c.in_ok-push_text.ensures c.in_ok-push_name.ensures c.in_ok-push_text-2.ensures c.in_ok-push_number.ensures.ok c.in_ok-push_bracketed.ensures e)
    c.push_text-3.ensures
