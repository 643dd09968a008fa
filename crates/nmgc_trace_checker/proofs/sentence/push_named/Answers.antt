use Rattle.nmgc_journal.specs.Text.{name_text}
use Rattle.nmgc_trace_checker.proofs.{Vocabulary.codes, Vocabulary.on_ok_weaker, Appended.pushed_four}
use Rattle.nmgc_trace_checker.proofs.sentence.push_named.Goals as goal

pub returns : goal.returns
returns c =
    on_ok_weaker c.push_text-3.result (λ e. pushed_four c.args.out.now.items (codes "can't happen: ") c.args.before.now (name_text c.args.name)
    c.args.after.now _ _ _ _ c.in_ok-push_text.ensures c.in_ok-push_text-2.ensures c.in_ok-push_name.ensures e) c.push_text-3.ensures
