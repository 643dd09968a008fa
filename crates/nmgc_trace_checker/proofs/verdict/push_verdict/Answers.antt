use Rattle.std.specs.Prelude.{flat_map}
use Rattle.nmgc_trace_checker.specs.Sentences.{after_space}
use Rattle.nmgc_trace_checker.proofs.{Vocabulary.List, Vocabulary.Name, Vocabulary.◌≡◌, Vocabulary.◌++◌, Vocabulary.codes, Vocabulary.subst, Vocabulary.on_ok_weaker, Appended.pushed_two, Appended.pushed_three}
use Rattle.nmgc_trace_checker.proofs.verdict.push_verdict.Goals as goal

pub returns-in_ok-push_number-in-Bad : goal.returns-in_ok-push_number-in-Bad
returns-in_ok-push_number-in-Bad c = rw c.in-Bad.is (on_ok_weaker c.push_text-in-Bad.result (λ e.
    pushed_three _ _ _ _ _ _ _ c.in_ok-push_text-in-Bad.ensures c.in_ok-push_number-in-Bad.ensures.ok e) c.push_text-in-Bad.ensures)

pub returns-in_ok-push_text-in-Open : goal.returns-in_ok-push_text-in-Open
returns-in_ok-push_text-in-Open c = rw c.in-Open.is (on_ok_weaker c.push_names.result (λ e.
    subst (λ (l : List Name). c.push_names.new.out.items ≡ c.args.out.now.items ++ (codes "marking goes on, marked" ++ flat_map after_space l)) c.items.ensures
    (pushed_two _ _ _ _ _ c.in_ok-push_text-in-Open.ensures e)) c.push_names.ensures)

pub returns-in_ok-push_text-in-Closed : goal.returns-in_ok-push_text-in-Closed
returns-in_ok-push_text-in-Closed c = rw c.in-Closed.is (on_ok_weaker c.push_names-in-Closed.result (λ e.
    subst (λ (l : List Name). c.push_names-in-Closed.new.out.items ≡ c.args.out.now.items ++ (codes "closed, kept" ++ flat_map after_space l))
    c.items-in-Closed.ensures (pushed_two _ _ _ _ _ c.in_ok-push_text-in-Closed.ensures e)) c.push_names-in-Closed.ensures)
