use Rattle.nmgc_weak.proofs.Vocabulary.{◌↔◌, refl, subst, sym, Option, Some, None, IfSome, IfNone, IsSnapshotAt, IsBlockAt, IsTrue, is_some}
use Rattle.nmgc_weak.proofs.resolve.is_of_snapshot.Goals as goal

-- a search that finds exactly if there is anything to find
found : {A : Type 0} (o : Option A) (Q : A → Type 0) (P : Type 0) → IfSome o (λ a. Q a × P) → IfNone o (P → ⊥) → IsTrue (is_some o) ↔ P
found None Q P some_ none = (λ t. absurd cc, λ p. absurd (none p))
found (Some a) Q P some_ none = (λ t. some_.1, λ p. refl)

pub returns : goal.returns
returns c =
    let there = found c.snapshot_block.result (λ p. IsBlockAt c.args.segments.now p.0 p.1 c.args.at.0) (IsSnapshotAt c.args.segments.now c.args.at.0)
    c.snapshot_block.ensures.some c.snapshot_block.ensures.none in
    subst (λ b. IsTrue b ↔ IsSnapshotAt c.args.segments.now c.args.at.0) (sym c.is_some.ensures) there
