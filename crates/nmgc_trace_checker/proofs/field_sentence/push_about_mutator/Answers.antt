use Rattle.std.specs.Prelude.{decimal, ◌-◌}
use Rattle.nmgc_trace_checker.proofs.{Vocabulary.ap, Vocabulary.on_ok_weaker, Vocabulary.ℕ, Vocabulary.◌++◌, Vocabulary.◌∙◌, Appended.pushed_three}
use Rattle.nmgc_trace_checker.proofs.field_sentence.push_about_mutator.Goals as goal

pub returns : goal.returns
returns c =
    on_ok_weaker c.push_text-2.result (λ e. pushed_three c.args.out.now.items c.args.before.now (decimal (c.args.mutator.number - 1)) c.args.after.now _ _ _
    c.in_ok-push_text.ensures (c.in_ok-push_number.ensures.ok ∙ ap (λ (n : ℕ). c.push_text.new.out.items ++ decimal n) c.saturating_sub.ensures) e)
    c.push_text-2.ensures
