use Rattle.std.proofs.Common.{inl, inr, refl}
use Rattle.nmgc_alloc.proofs.OneLaws.{taken_invariant}
use Rattle.nmgc_alloc.proofs.segments.Segments.take_block_in.Goals as goal

pub invariant_of-self : goal.invariant_of-self
invariant_of-self c =
    taken_invariant _ _ _ _ _ _ _ _ _ _ _ c.self.view_is c.self.invariant c.requires.exists c.requires.current c.index_mut-segment.ensures.value
    c.take_block-block.ensures.takes c.take_block-block.ensures.sound
    (inr ((λ free. let has = c.has_free.ensures.1 free in let other = c.if-not-has_free.true in cc), refl))
    (inr ((λ free. let has = c.has_free.ensures.1 free in let other = c.if-not-has_free.true in cc), refl))

pub invariant_of-self-else-not-has_free : goal.invariant_of-self-else-not-has_free
invariant_of-self-else-not-has_free c =
    taken_invariant _ _ _ _ _ _ _ _ _ _ _ c.self.view_is c.self.invariant c.requires.exists c.requires.current c.index_mut-segment.ensures.value
    c.take_block-block.ensures.takes c.take_block-block.ensures.sound
    (inl (c.has_free.ensures.0 c.if-not-has_free.false, refl))
    (inl (c.has_free.ensures.0 c.if-not-has_free.false, refl))

pub returns-then-not-has_free-clause-sound : goal.returns-then-not-has_free-clause-sound
returns-then-not-has_free-clause-sound c =
    (taken_invariant _ _ _ _ _ _ _ _ _ _ _ c.self.view_is c.self.invariant c.requires.exists c.requires.current c.index_mut-segment.ensures.value
    c.take_block-block.ensures.takes c.take_block-block.ensures.sound
    (inr ((λ free. let has = c.has_free.ensures.1 free in let other = c.if-not-has_free.true in cc), refl))
    (inr ((λ free. let has = c.has_free.ensures.1 free in let other = c.if-not-has_free.true in cc), refl))).0

pub returns-else-not-has_free-clause-sound : goal.returns-else-not-has_free-clause-sound
returns-else-not-has_free-clause-sound c =
    (taken_invariant _ _ _ _ _ _ _ _ _ _ _ c.self.view_is c.self.invariant c.requires.exists c.requires.current c.index_mut-segment.ensures.value
    c.take_block-block.ensures.takes c.take_block-block.ensures.sound
    (inl (c.has_free.ensures.0 c.if-not-has_free.false, refl))
    (inl (c.has_free.ensures.0 c.if-not-has_free.false, refl))).0
