-- Words that begin like a heap with g: word 0, g, and zeros up to the first segment.
use Rattle.std.specs.Prelude.{◌≡◌, ◌+◌, ◌-◌, ◌<◌, ◌∷◌, ◌++◌}
use Rattle.nmgc_heap_spec.specs.laws.Vocabulary.{ℕ, zero, suc, ◌∙◌, List, length, replicate, slice_index, inl, inr, refl, ap, arith, get_or_append_left, get_or-append-add, get_or-replicate, SHARED_SLOTS, HasZeros}

-- the words beside g are 0 there
pub zeros_first : (header name : ℕ) (slots rest : List ℕ) → length slots ≡ SHARED_SLOTS →
    HasZeros (0 ∷ header ∷ name ∷ (slots ++ (replicate 13 0 ++ rest)))
zeros_first header name slots rest long zero nobody = refl
zeros_first header name slots rest long (suc zero) (inl first) = absurd (omega (arith, first))
zeros_first header name slots rest long (suc zero) (inr last) = absurd (let low = last.0 in omega (arith, low))
zeros_first header name slots rest long (suc (suc zero)) (inl first) = absurd (omega (arith, first))
zeros_first header name slots rest long (suc (suc zero)) (inr last) = absurd (let low = last.0 in omega (arith, low))
zeros_first header name slots rest long (suc (suc (suc i))) (inl first) = absurd (omega (arith, first))
zeros_first header name slots rest long (suc (suc (suc i))) (inr last) =
    let low = last.0 in
    let high = last.1 in
    let at : i ≡ length slots + (i - 16) = omega (arith, low, long) in
    let within : i - 16 < 13 = omega (arith, low, high) in
    ap (λ (k : ℕ). slice_index (slots ++ (replicate 13 0 ++ rest)) k) at
    ∙ get_or-append-add slots (replicate 13 0 ++ rest) (i - 16) 0
    ∙ get_or_append_left (replicate 13 0) rest 0 (i - 16) within
    ∙ get_or-replicate 13 (i - 16) 0 0 within
