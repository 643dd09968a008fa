use Rattle.std.proofs.Common.{arith, sym, ◌∙◌}
use Rattle.nmgc_script.proofs.Kept.{passed, kept, counted, kept_none}
use Rattle.nmgc_script.proofs.text.Lines.next.Goals as goal

pub returns-then-not-is_blank_or_comment-clause-line : goal.returns-then-not-is_blank_or_comment-clause-line
returns-then-not-is_blank_or_comment-clause-line c =
    sym c.loop-line.invariant.kept ∙
    kept c.loop-line.self.number c.loop-line.self.rest.now c.in-Some.line.now c.in-Some.rest.now c.in-Some.ensures.line
    (sym c.is_blank_or_comment.ensures ∙ c.if-not-is_blank_or_comment.true)

pub returns-then-not-is_blank_or_comment-clause-end : goal.returns-then-not-is_blank_or_comment-clause-end
returns-then-not-is_blank_or_comment-clause-end c =
    counted c.loop-line.self.number c.loop-line.self.rest.now c.in-Some.line.now c.in-Some.rest.now c.in-Some.ensures.line ∙ c.loop-line.invariant.end

pub returns-then-not-is_blank_or_comment-clause-text : goal.returns-then-not-is_blank_or_comment-clause-text
returns-then-not-is_blank_or_comment-clause-text c = c.in-Some.ensures.front

pub loop-line-preserved : goal.loop-line-preserved
loop-line-preserved c = record {
  kept = passed c.loop-line.self.number c.loop-line.self.rest.now c.in-Some.line.now c.in-Some.rest.now c.in-Some.ensures.line
      (sym c.is_blank_or_comment.ensures ∙ c.if-not-is_blank_or_comment.false) ∙ c.loop-line.invariant.kept;
  end = counted c.loop-line.self.number c.loop-line.self.rest.now c.in-Some.line.now c.in-Some.rest.now c.in-Some.ensures.line ∙ c.loop-line.invariant.end;
  less = omega (arith, c.in-Some.ensures.less);
}

pub returns-clause-none : goal.returns-clause-none
returns-clause-none c = sym c.loop-line.invariant.kept ∙ kept_none c.loop-line.self.number c.loop-line.self.rest.now c.in_default.ensures.none
