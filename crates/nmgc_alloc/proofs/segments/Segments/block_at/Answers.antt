use Rattle.nmgc_alloc.proofs.Vocabulary.{ℕ, subst, sym, IfSome, IfNone, IsBlockAt}
use Rattle.nmgc_alloc.proofs.segments.Segments.block_at.Goals as goal

pub returns-clause-some : goal.returns-clause-some
returns-clause-some c =
    subst (λ (k : ℕ). IfSome c.block_in.result (λ p. IsBlockAt c.args.self.now p.0 p.1 k)) (sym c.in_ok-number.ensures.some.2) c.block_in.ensures.some

pub returns-clause-none : goal.returns-clause-none
returns-clause-none c =
    subst (λ (k : ℕ). IfNone c.block_in.result ((number block : ℕ) → IsBlockAt c.args.self.now number block k → ⊥))
    (sym c.in_ok-number.ensures.some.2) c.block_in.ensures.none
