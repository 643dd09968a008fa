use Rattle.nmgc_trace_checker.proofs.Vocabulary.{DueLine, List, subst, sym, ◌∙◌, ◌≢◌, Contains-get_or, Contains, take_all, nothing}
use Rattle.nmgc_trace_checker.proofs.Noted.{none_more}
use Rattle.nmgc_trace_checker.proofs.checker.text_since.Goals as goal

pub loop-line-init : goal.loop-line-init
loop-line-init c = λ line is. absurd (nothing line is)

pub returns-then-line-debt : goal.returns-then-line-debt
returns-then-line-debt c =
    let found : Contains c.args.lines.now c.line-item.result = subst (λ (l : DueLine). Contains c.args.lines.now l) (sym c.line-item.is)
    (Contains-get_or c.args.lines.now c.loop-line.line-index c.line-item.result c.loop-line-test.true) in
    (c.line-item.result, found, c.if-line-debt.true, c.in_ok-text.ensures.ok ∙ c.as_str.ensures.value)

pub loop-line-preserved : goal.loop-line-preserved
loop-line-preserved c =
    none_more c.args.lines.now c.loop-line.line-index c.args.debt.line c.line-item.result c.loop-line-test.true c.loop-line.invariant
    (subst (λ (l : DueLine). l.number ≢ c.args.debt.line) c.line-item.is c.if-line-debt.false)

pub returns : goal.returns
returns c = λ has. c.loop-line.invariant has.0 (subst (λ (ls : List DueLine). Contains ls has.0)
    (sym (take_all c.loop-line.line-index c.args.lines.now c.loop-line-test.false)) has.1) has.2
