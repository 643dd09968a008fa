use Rattle.nmgc_alloc.proofs.{Vocabulary.ℕ, Vocabulary.◌+◌, Vocabulary.refl, Vocabulary.subst, Vocabulary.segment_place, Vocabulary.Segments, Vocabulary.IsSegments, Vocabulary.IsBlockAt, MarkLaws.inside_segment, MarkLaws.same_segment, MarkLaws.begins_there, MarkLaws.none_begins}
use Rattle.nmgc_alloc.proofs.segments.Segments.block_in.Goals as goal

pub returns-then-is_free-clause-none : goal.returns-then-is_free-clause-none
returns-then-is_free-clause-none c = λ other block begins.
    let s : Segments = c.args.self.now in
    let place : ℕ = segment_place s.layout c.args.number + c.args.offset in
    let sound = subst (λ (t : Segments). IsSegments t) c.self.view_is c.self.invariant.0 in
    let same = same_segment s place c.args.number c.args.offset other block sound c.requires.within refl begins in
    let here = subst (λ (n : ℕ). IsBlockAt s n block place) same begins in
    here.used (c.is_free.ensures.0 c.if-is_free.true)

pub block_at-requires : goal.block_at-requires
block_at-requires c =
    inside_segment _ _ _ _ _ c.self.view_is c.self.invariant.0 c.requires.exists c.requires.within c.index.ensures

pub returns-in_err-block-clause-none : goal.returns-in_err-block-clause-none
returns-in_err-block-clause-none c = rw c.from_residual.ensures (λ other block begins.
    let s : Segments = c.args.self.now in
    let place : ℕ = segment_place s.layout c.args.number + c.args.offset in
    let sound = subst (λ (t : Segments). IsSegments t) c.self.view_is c.self.invariant.0 in
    let same = same_segment s place c.args.number c.args.offset other block sound c.requires.within refl begins in
    let here = subst (λ (n : ℕ). IsBlockAt s n block place) same begins in
    none_begins _ _ c.args.number block c.args.offset _ c.self.view_is c.requires.exists c.index.ensures c.in_err-block.ensures.none here)

pub returns-clause-some : goal.returns-clause-some
returns-clause-some c =
    begins_there _ _ c.args.number c.in_ok-block.block c.args.offset _ c.self.view_is c.requires.exists c.index.ensures
    (λ free. let yes = c.is_free.ensures.1 free in let other = c.if-is_free.false in cc) c.in_ok-block.ensures.some
