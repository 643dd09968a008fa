use Rattle.nmgc_barrier_checker.proofs.{Vocabulary.◌∙◌, Vocabulary.sym, Vocabulary.false≢true, Blacks.black_name}
use Rattle.nmgc_barrier_checker.proofs.cycle_result.CycleResult.may_be_black.Goals as goal

pub returns-then-not-is_old : goal.returns-then-not-is_old
returns-then-not-is_old c = λ old. absurd (false≢true (sym (rw c.items.ensures at (sym c.is_old.ensures ∙ c.if-not-is_old.true)) ∙ old))

pub returns : goal.returns
returns c = black_name c.args.self.now c.args.name c.has.result (rw c.items.ensures at (sym c.is_old.ensures ∙ c.if-not-is_old.false)) c.has.ensures
