use Rattle.nmgc_mutator.proofs.Vocabulary.{subst, sym, IfNone, IfSome, Command, IsYield, IsEnd}
use Rattle.nmgc_mutator.proofs.slice.end_of.Goals as goal

pub returns-clause-none : goal.returns-clause-none
returns-clause-none c = subst (λ (k : Command). IfNone c.end_in.result (IsYield k → ⊥)) (sym c.form.ensures) c.end_in.ensures.none

pub returns-clause-some : goal.returns-clause-some
returns-clause-some c = subst (λ (k : Command). IfSome c.end_in.result (λ end. IsEnd k end)) (sym c.form.ensures) c.end_in.ensures.some
