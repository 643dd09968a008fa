-- A shift and a mask in place of a division by the words of a segment, which are a power of two.
use Rattle.nmgc_alloc.proofs.Vocabulary.{ℕ, ◌≡◌, ◌+◌, ◌-◌, ◌*◌, ◌^◌, ◌/◌, ◌%◌, ◌≤◌, ◌∙◌, refl, ap, sym, arith, true, eqb, bit_and, count_trailing_zeros, agree_below_at, eqb-true, pow-add, and_mask, IsSegmentSize, is_whole}

-- the number of digits below the only digit that is set
digits_below : (steps : ℕ) → steps ≤ 8 → count_trailing_zeros 32 (16 * 2 ^ steps) ≡ steps + 4
unfolding count_trailing_zeros
digits_below steps few = eqb-true _ _ (agree_below_at (λ k. eqb (count_trailing_zeros 32 (16 * 2 ^ k)) (k + 4)) (λ k. true) 9 steps refl (omega arith))

-- the words of a segment are that power of two
pub shift_is : (words : ℕ) → IsSegmentSize words → 2 ^ count_trailing_zeros 32 words ≡ words
shift_is words h =
    let w = is_whole words h in
    let digits : count_trailing_zeros 32 words ≡ w.steps + 4 = ap (count_trailing_zeros 32) w.is ∙ digits_below w.steps w.most in
    let power : 2 ^ (w.steps + 4) ≡ 2 ^ w.steps * 2 ^ 4 = pow-add 2 w.steps 4 in
    let is : words ≡ 16 * 2 ^ w.steps = w.is in
    ap (λ (k : ℕ). 2 ^ k) digits ∙ omega (arith, power, is)

pub shifted : (n words : ℕ) → IsSegmentSize words → n / 2 ^ count_trailing_zeros 32 words ≡ n / words
shifted n words h = ap (λ (k : ℕ). n / k) (shift_is words h)

pub masked : (n words : ℕ) → IsSegmentSize words → bit_and n (words - 1) ≡ n % words
masked n words h =
    let digits = count_trailing_zeros 32 words in
    let is = shift_is words h in
    ap (λ (k : ℕ). bit_and n (k - 1)) (sym is) ∙ and_mask n digits ∙ ap (λ (k : ℕ). n % k) is
