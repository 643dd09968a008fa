use Rattle.nmgc_alloc.proofs.Vocabulary.{subst, sym, IfNone, Segments, IsBlockAt}
use Rattle.std.specs.Prelude.{Option, Some, None}
use Rattle.std.proofs.lemmas.Option.{IfSome_then}
use Rattle.nmgc_alloc.proofs.LateLaws.{block_seen}
use Rattle.nmgc_alloc.proofs.late.Segments.block_at.Goals as goal

none_then : {X : Type 0} {P Q : Type 0} (r : Option X) → IfNone r P → (P → Q) → IfNone r Q
none_then None h f = f h
none_then (Some x) h f = tt

pub returns-clause-some : goal.returns-clause-some
returns-clause-some c = IfSome_then c.block_at.result c.block_at.ensures.some (λ p begins.
    subst (λ (s : Segments). IsBlockAt s p.0 p.1 c.args.at.0) c.self.view_is ((block_seen c.self.inside.late c.self.inside.done p.0 p.1 c.args.at.0).0 begins))

pub returns-clause-none : goal.returns-clause-none
returns-clause-none c = none_then c.block_at.result c.block_at.ensures.none (λ none number block begins.
    none number block ((block_seen c.self.inside.late c.self.inside.done number block c.args.at.0).1
    (subst (λ (s : Segments). IsBlockAt s number block c.args.at.0) (sym c.self.view_is) begins)))
