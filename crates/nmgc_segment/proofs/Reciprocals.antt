-- A product in place of a division by the words of a block.
use Rattle.nmgc_segment.proofs.Vocabulary.{ℕ, ◌≡◌, ◌↔◌, inl, inr, ◌+◌, ◌-◌, ◌*◌, ◌/◌, ◌%◌, ◌<◌, ◌≤◌, ◌∙◌, refl, ap, sym, arith, Bool, true, ◌&&◌, leb, ltb, get_or, mul-le-mul_right, div-add-mod', agree_below_at, and_parts, cases_lt, leb-true, ltb-true, mul-mod_left, div-mul-add, mod-mul-add, le-div, mod_below, block_size, least_block, RECIPROCALS}

-- the product of 65536 / d, rounded up, and a number of words errs by less than a block
record IsReciprocal (d r : ℕ) : Type 0 where
  pub up : 65536 ≤ d * r
  pub close : (4096 / d + 1) * (d * r - 65536) < r
  pub small : r ≤ 16384

-- the same, as a test
abbrev is_reciprocal : ℕ → ℕ → Bool
is_reciprocal d r = leb 65536 (d * r) && (ltb ((4096 / d + 1) * (d * r - 65536)) r && leb r 16384)

-- the table's number for a class
abbrev pub reciprocal : ℕ → ℕ
reciprocal class = get_or RECIPROCALS class 0

-- the property for every number of the table
reciprocal_of : (class : ℕ) → class ≤ 20 → IsReciprocal (block_size class) (reciprocal class)
reciprocal_of class le =
    let holds : is_reciprocal (block_size class) (reciprocal class) ≡ true =
    agree_below_at (λ c. is_reciprocal (block_size c) (reciprocal c)) (λ c. true) 21 class refl (omega arith) in
    let parts = and_parts _ _ holds in
    let rest = and_parts _ _ parts.1 in
    record { up = leb-true _ _ parts.0; close = ltb-true _ _ rest.0; small = leb-true _ _ rest.1 }

-- a multiple of the factor that is less than the factor is 0
none_left : (m r : ℕ) → m * r < r → m ≡ 0
none_left m r h = elim (cases_lt 0 m) [
  | inl some ↦ absurd (let more : 1 * r ≤ m * r = mul-le-mul_right r (omega (arith, some)) in omega (arith, h, more))
  | inr none ↦ omega (arith, none)
]

-- the product without its 16 lowest digits is the quotient; these digits are below the factor exactly if the remainder is 0
quotient : (n d r : ℕ) → 0 < d → n < 4096 → IsReciprocal d r → (n * r / 65536 ≡ n / d) × ((n * r % 65536 < r) ↔ (n % d ≡ 0))
quotient n d r pos few h =
    let q : ℕ = n / d in
    let m : ℕ = n % d in
    let e : ℕ = d * r - 65536 in
    let split : q * d + m ≡ n = div-add-mod' n d in
    let under : m < d = mod_below n d pos in
    let most : q ≤ 4096 / d = le-div q 4096 d pos (omega (arith, split)) in
    let errs : (q + 1) * e ≤ (4096 / d + 1) * e = mul-le-mul_right e (omega (arith, most)) in
    let left : (m + 1) * r ≤ d * r = mul-le-mul_right r (omega (arith, under)) in
    let errs_out : (q + 1) * e ≡ q * e + e = grind arith in
    let left_out : (m + 1) * r ≡ m * r + r = grind arith in
    let whole : d * r ≡ 65536 + e = omega (arith, h.up) in
    let low : q * e + m * r < 65536 = omega (arith, errs, errs_out, left, left_out, whole, h.close) in
    let product : n * r ≡ q * (d * r) + m * r = ap (λ (k : ℕ). k * r) (sym split) ∙ grind arith in
    let shares : q * (d * r) ≡ q * (65536 + e) = ap (λ (k : ℕ). q * k) whole in
    let shared : q * (65536 + e) ≡ q * 65536 + q * e = grind arith in
    let is : n * r ≡ q * 65536 + (q * e + m * r) = omega (arith, product, shares, shared) in
    let digits : n * r % 65536 ≡ q * e + m * r = ap (λ (k : ℕ). k % 65536) is ∙ mod-mul-add q 65536 (q * e + m * r) low in (
      ap (λ (k : ℕ). k / 65536) is ∙ div-mul-add q 65536 (q * e + m * r) low,
      (
        λ below. none_left m r (omega (arith, below, digits)),
        λ none. let share : m * r ≡ 0 * r = ap (λ (k : ℕ). k * r) none in omega (arith, digits, share, errs, errs_out, h.close),
      ),
    )

-- the block that begins at the word
pub block_found : (n class : ℕ) → n < 4096 → class ≤ 20 → n * reciprocal class % 65536 < reciprocal class →
    n ≡ n * reciprocal class / 65536 * block_size class
block_found n class few le below =
    let d = block_size class in
    let found = quotient n d (reciprocal class) (omega (arith, least_block class)) few (reciprocal_of class le) in
    let none : n % d ≡ 0 = found.1.0 below in
    let whole : n / d * d + n % d ≡ n = div-add-mod' n d in
    let same : n * reciprocal class / 65536 * d ≡ n / d * d = ap (λ (k : ℕ). k * d) found.0 in
    omega (arith, none, whole, same)

-- no block begins at the word
pub none_found : (n class block : ℕ) → n < 4096 → class ≤ 20 → reciprocal class ≤ n * reciprocal class % 65536 → n ≡ block * block_size class → ⊥
none_found n class block few le above is =
    let d = block_size class in
    let pos : 0 < d = omega (arith, least_block class) in
    let found = quotient n d (reciprocal class) pos few (reciprocal_of class le) in
    let none : n % d ≡ 0 = ap (λ (k : ℕ). k % d) is ∙ mul-mod_left block d in
    let below = found.1.1 none in
    omega (arith, above, below)

-- at most one block begins at a word
pub one_block : (n d k block blocks : ℕ) → 0 < d → n ≡ k * d → n ≡ block * d → k < blocks → blocks ≤ block → ⊥
one_block n d k block blocks pos is found within past =
    let more : (k + 1) * d ≤ block * d = mul-le-mul_right d (omega (arith, within, past)) in
    let out : (k + 1) * d ≡ k * d + d = grind arith in
    omega (arith, more, out, is, found)
