use Rattle.nmgc_trace_checker.proofs.{Vocabulary.on_ok_weaker, Appended.pushed_three}
use Rattle.nmgc_trace_checker.proofs.field_sentence.push_about_name.Goals as goal

pub returns : goal.returns
returns c =
    on_ok_weaker c.push_text-3.result (λ e. pushed_three c.args.out.now.items c.args.before.now c.args.name.now c.args.after.now _ _ _
    c.in_ok-push_text.ensures c.in_ok-push_text-2.ensures e) c.push_text-3.ensures
