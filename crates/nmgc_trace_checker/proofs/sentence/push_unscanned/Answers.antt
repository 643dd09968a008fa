use Rattle.std.specs.Prelude.{decimal}
use Rattle.nmgc_trace_checker.proofs.{Vocabulary.codes, Vocabulary.on_ok_weaker, Vocabulary.◌++◌, Appended.pushed_two}
use Rattle.nmgc_trace_checker.proofs.sentence.push_unscanned.Goals as goal

pub returns : goal.returns
returns c =
    on_ok_weaker c.push_text-2.result (λ e. pushed_two c.args.out.now.items (codes "can't happen: mutator " ++ decimal c.args.mutator)
    (codes " wasn't scanned") _ _ (pushed_two c.args.out.now.items (codes "can't happen: mutator ") (decimal c.args.mutator) _ _
    c.in_ok-push_text.ensures c.in_ok-push_number.ensures.ok) e) c.push_text-2.ensures
