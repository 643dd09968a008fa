use Rattle.std.proofs.Common.{ℕ, List, subst, Ok}
use Rattle.nmgc_live.specs.{Lines.IsNextLine, Meanings.IsJudged, declared.lines.NextLine.NextLine}
use Rattle.nmgc_live.proofs.Judging.{line_read}
use Rattle.nmgc_live.proofs.session.next_line.Goals as goal

pub returns-in_ok-judge_line-in-Whole-clause-judged : goal.returns-in_ok-judge_line-in-Whole-clause-judged
returns-in_ok-judge_line-in-Whole-clause-judged g c =
    let a = g.S.Source.left c.args.source.now in
    let b = g.S.Source.left c.next.new.source in
    let r = c.args.lines.now in
    let x = c.next.new.self in
    let s = c.args.session.now in
    let y = c.judge_line.new.session in
    let j = c.in_ok-judge_line-in-Whole.field-0 in
    let next = subst (λ (n : NextLine). IsNextLine r x a b (Ok n)) c.in-Whole.is c.in_ok-next.ensures.line in
    line_read c.args.options c.args.heap r x a b s y j next
    (subst (λ (l : List ℕ). IsJudged c.args.heap.words c.args.heap.count c.args.options.has_prompts s y l j) c.line.ensures
    c.in_ok-judge_line-in-Whole.ensures.judged)
