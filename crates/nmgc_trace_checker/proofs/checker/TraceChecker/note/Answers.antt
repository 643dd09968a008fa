use Rattle.nmgc_trace_checker.proofs.{Vocabulary.on_ok_weaker, Noted.noted_after, Noted.keeps_after}
use Rattle.nmgc_trace_checker.proofs.checker.TraceChecker.note.Goals as goal

pub returns-clause-lines : goal.returns-clause-lines
returns-clause-lines c =
    on_ok_weaker c.keep_if.result (λ noted. noted_after _ _ _ _ _ c.forget_unless.ensures.fewer noted) c.keep_if.ensures.noted

pub returns-clause-kept : goal.returns-clause-kept
returns-clause-kept c =
    on_ok_weaker c.keep_if.result (λ kept. keeps_after _ _ _ _ _ _ _ c.is_marking-goes_on.ensures c.may_be_reported-is_due.ensures
    c.forget_unless.ensures.same kept) c.keep_if.ensures.kept
