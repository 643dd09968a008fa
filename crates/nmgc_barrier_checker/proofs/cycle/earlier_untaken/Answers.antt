use Rattle.nmgc_barrier_checker.proofs.Vocabulary.{◌∙◌, sym, IsBefore, before_trans, not_before_itself, is_untaken}
use Rattle.nmgc_barrier_checker.proofs.Firsts.{before_cases, joins, skips}
use Rattle.nmgc_barrier_checker.proofs.cycle.earlier_untaken.Goals as goal

pub returns-then-not-is_untaken : goal.returns-then-not-is_untaken
returns-then-not-is_untaken c = λ before h.
    skips IsBefore before_cases before_trans not_before_itself (is_untaken c.args.taken.now) before c.args.name c.args.first
    (sym c.is_untaken.ensures ∙ c.if-not-is_untaken.true) h

pub returns : goal.returns
returns c = λ before h.
    joins IsBefore before_cases before_trans not_before_itself (is_untaken c.args.taken.now) before c.args.name c.earlier_name.result c.args.first
    (sym c.is_untaken.ensures ∙ c.if-not-is_untaken.false) h c.earlier_name.ensures.some c.earlier_name.ensures.none
