-- Waiting segments: whether there are any, and sweeping them one after the other.
use Rattle.nmgc_alloc.proofs.{Vocabulary.ℕ, Vocabulary.zero, Vocabulary.suc, Vocabulary.◌≡◌, Vocabulary.◌<◌, Vocabulary.◌≤◌, Vocabulary.◌⊎◌, Vocabulary.◌∙◌, Vocabulary.inl, Vocabulary.inr, Vocabulary.refl, Vocabulary.ap, Vocabulary.subst, Vocabulary.sym, Vocabulary.arith, Vocabulary.List, Vocabulary.length, Vocabulary.take, Vocabulary.get_or-take, Vocabulary.cases_Bool, Vocabulary.length-take-le, Vocabulary.Segment, Vocabulary.free_segment, Vocabulary.Sweeping, Vocabulary.nth, Vocabulary.is, Vocabulary.Segments, Vocabulary.NoneBelow, Vocabulary.sought_count, Vocabulary.HasNoneIn, Vocabulary.SweepsNext, Vocabulary.SweepsMany, Vocabulary.one_counted, TallyLaws.passes, TallyLaws.from_test}
use Rattle.nmgc_segment.specs.declared.state.State.TheVariants as state

-- a segment waits or doesn't
pub waits_or_not : (x : Segment) → (x.state ≡ state.Sweeping) ⊎ (x.state ≡ state.Sweeping → ⊥)
waits_or_not x = elim (cases_Bool (is x.state state.Sweeping)) [
  | inl e ↦ inl (from_test Sweeping x e)
  | inr e ↦ inr (λ w. let p = passes Sweeping x w in cc)
]

-- if no segment below a number waits, none is counted there
pub none_below_none : (xs : List Segment) (n : ℕ) → NoneBelow Sweeping xs n → n ≤ length xs → 0 < sought_count Sweeping (take n xs) → ⊥
none_below_none xs n none within some =
    let found = one_counted state.Sweeping (take n xs) some in
    let size : length (take n xs) ≡ n = length-take-le n xs within in
    let low : found.0 < n = let l = found.1 in omega (arith, l, size) in
    let at : nth (take n xs) found.0 ≡ nth xs found.0 = get_or-take n xs found.0 (free_segment 0) low in
    none found.0 low (sym (ap (λ (t : Segment). t.state) at) ∙ from_test Sweeping (nth (take n xs) found.0) found.2)

-- one more sweep at the end
pub sweeps_more : (epoch done number : ℕ) (old s u : Segments) → SweepsMany epoch done old s → SweepsNext s u epoch number → SweepsMany epoch (suc done) old u
sweeps_more epoch zero number old s u e next = (u, number, subst (λ (x : Segments). SweepsNext x u epoch number) e next, refl)
sweeps_more epoch (suc done) number old s u h next = (h.0, h.1, h.2, sweeps_more epoch done number h.0 s u h.3 next)

-- a count above 0 means that a segment is to be swept
pub some_sought : (s : Segments) → 0 < sought_count Sweeping s.segments → HasNoneIn state.Sweeping s → ⊥
some_sought s some none = let found = one_counted state.Sweeping s.segments some in none found.0 found.1 (from_test Sweeping (nth s.segments found.0) found.2)
