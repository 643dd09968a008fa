use Rattle.nmgc_object.proofs.Vocabulary.{ℕ, ◌≡◌, ◌+◌, ◌-◌, ◌*◌, ◌/◌, ◌^◌, ◌<◌, ◌≤◌, inl, inr, arith, refl, sym, subst, count_leading_zeros, cases_lt, pow-add, leading_length, pow-le-pow_right, block_size, dense_block, wide_block}
use Rattle.nmgc_object.proofs.size.class_of.Goals as goal

abbrev IsClass : ℕ → ℕ → Type 0
IsClass words class = (words ≤ block_size class) × ((c : ℕ) → c < class → block_size c < words) × (class ≤ 20)

-- the bits of the number of blocks of the greatest dense class
found : (words full m : ℕ) → 16 < words → words ≤ 4096 → full ≡ (words - 1) / 16 → full < 2 ^ m → 2 ^ m ≤ 2 * full + 1 → IsClass words (m + 12)
found words full m more most full_is low high = (
  (let is = wide_block m in omega (arith, is, low, full_is)),
  λ c below. elim (cases_lt 12 c) [
    | inr few ↦ let is = dense_block c few in omega (arith, is, more)
    | inl wide ↦
        let k : ℕ = c - 12 in
        let is : block_size c ≡ 16 * 2 ^ k = let same : c ≡ k + 12 = omega arith in subst (λ (d : ℕ). block_size d ≡ 16 * 2 ^ k) (sym same) (wide_block k) in
        let up : 2 ^ (k + 1) ≤ 2 ^ m = pow-le-pow_right {n = 2} (omega arith) {i = k + 1} {j = m} (omega (arith, below, wide)) in
        let twice : 2 ^ (k + 1) ≡ 2 ^ k * 2 ^ 1 = pow-add 2 k 1 in
        omega (arith, is, up, twice, high, full_is, more)
  ],
  elim (cases_lt 8 m) [
    | inl lt ↦ absurd (let up : 2 ^ 9 ≤ 2 ^ m = pow-le-pow_right {n = 2} (omega arith) {i = 9} {j = m} (omega (arith, lt)) in
        omega (arith, up, high, full_is, most))
    | inr le ↦ omega (arith, le)
  ],
)

wide : (words : ℕ) → 16 < words → words ≤ 4096 → IsClass words (12 + (32 - count_leading_zeros 32 ((words - 1) / 16)))
wide words more most =
    let full : ℕ = (words - 1) / 16 in
    let small : full < 2 ^ 32 = omega (arith, most) in
    let bits = leading_length 32 full small in
    let sum = bits.1 in
    let same : 12 + (32 - count_leading_zeros 32 full) ≡ bits.0 + 12 = omega (arith, sum) in
    subst (λ (class : ℕ). IsClass words class) (sym same) (found words full bits.0 more most refl bits.2 bits.3)

pub returns-clause-holds : goal.returns-clause-holds
returns-clause-holds c = (wide c.args.words (omega (arith, c.if-words-le-DENSE_WORDS.false)) c.requires.most).0

pub returns-clause-least : goal.returns-clause-least
returns-clause-least c = (wide c.args.words (omega (arith, c.if-words-le-DENSE_WORDS.false)) c.requires.most).1

pub returns-clause-most : goal.returns-clause-most
returns-clause-most c = (wide c.args.words (omega (arith, c.if-words-le-DENSE_WORDS.false)) c.requires.most).2
