use Rattle.nmgc_trace_checker.proofs.{Vocabulary.on_ok_weaker, Appended.pushed_two}
use Rattle.nmgc_trace_checker.proofs.sentence.push_why.Goals as goal

pub returns-in_ok-push_text-in-Answer : goal.returns-in_ok-push_text-in-Answer
returns-in_ok-push_text-in-Answer c = rw c.in-Answer.is (
    on_ok_weaker c.push_reply.result (λ e. pushed_two _ _ _ _ _ c.in_ok-push_text-in-Answer.ensures e) c.push_reply.ensures)
