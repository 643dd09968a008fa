use Rattle.nmgc_trace_checker.proofs.{Vocabulary.on_ok_weaker, Appended.pushed_three}
use Rattle.nmgc_trace_checker.proofs.counts.push_many_dues.Goals as goal

pub returns : goal.returns
returns c =
    on_ok_weaker c.push_text-2.result (λ e. pushed_three _ _ _ _ _ _ _ c.in_ok-push_text.ensures c.in_ok-push_number.ensures.ok e) c.push_text-2.ensures
