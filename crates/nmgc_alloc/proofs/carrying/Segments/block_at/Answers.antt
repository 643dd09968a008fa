use Rattle.nmgc_alloc.proofs.Vocabulary.{subst, sym, Segments, IsBlockAt}
use Rattle.nmgc_alloc.proofs.CarryingLaws.{block_unseen, none_then}
use Rattle.nmgc_alloc.proofs.carrying.Segments.block_at.Goals as goal

pub returns-clause-none : goal.returns-clause-none
returns-clause-none c = none_then c.block_at.result c.block_at.ensures.none (λ none number block begins.
    none number block (block_unseen c.self.inside.late c.self.inside.done number block c.args.at.0 c.self.invariant
    (subst (λ (s : Segments). IsBlockAt s number block c.args.at.0) (sym c.self.view_is) begins)))
