-- The spaces of a line that bits mark, and the lowest of these bits.
use Rattle.nmgc_io.proofs.Vocabulary.{◌≡◌, ◌≢◌, ◌+◌, ◌-◌, ◌<◌, ◌≤◌, ◌^◌, ◌∙◌, ℕ, List, length, get_or, slice_index, take, drop, inl, inr, eqb, sym, ap, arith, cases_lt, count_trailing_zeros, length-take, length-take-le, get_or-take, get_or-drop}
use Rattle.std.proofs.Common.{◌/◌, ◌%◌, map, false, w64, refl}
use Rattle.std.proofs.lemmas.{Bool.eq-eqb, Bool.Decides.eqb_tells, List.get_or-map, Nat.shr-shr, Nat.Bits.bit_at-zero, Nat.Bits.bit_at-trailing_zeros, Simd.bit_mask_l}
use Rattle.std.specs.{Int.bit_at, Int.Count.trailing_of_zero, Prelude.if◌then◌else◌, Prelude.◌==◌, Simd.Lanes.mask_l}
use Rattle.nmgc_io.specs.Spaces.{MarksSpaces}

-- a byte whose bit is 1 is a space
marked : (marks : ℕ) (line : List ℕ) (k : ℕ) → MarksSpaces marks line → k < length line → bit_at marks k ≡ 1 → slice_index line k ≡ 32
marked marks line k is inside one = elim (eqb_tells (slice_index line k) 32) [
  | inl p ↦ p.1
  | inr p ↦
      let none : bit_at marks k ≡ 0 = is k inside ∙ rw p.0 refl in
      absurd (omega (arith, one, none))
]

-- a byte whose bit is 0 is no space
unmarked : (marks : ℕ) (line : List ℕ) (k : ℕ) → MarksSpaces marks line → k < length line → bit_at marks k ≡ 0 → slice_index line k ≢ 32
unmarked marks line k is inside none space =
    let one : bit_at marks k ≡ 1 = is k inside ∙ rw (eq-eqb (slice_index line k) 32 space) refl in
    omega (arith, one, none)

-- no byte before the lowest bit that is 1 is a space
pub others_below : (marks : ℕ) (line : List ℕ) → MarksSpaces marks line → marks < 2 ^ 64 → (k : ℕ) → k < count_trailing_zeros 64 marks →
    k < length line → slice_index line k ≢ 32
others_below marks line is fits k below inside = unmarked marks line k is inside (elim (cases_lt marks 1) [
  | inl lt ↦
      let zero : marks ≡ 0 = omega (arith, lt) in
      ap (λ (n : ℕ). bit_at n k) zero ∙ bit_at-zero k
  | inr ge ↦ (bit_at-trailing_zeros w64 marks (omega (arith, ge)) fits).2 k below
])

-- and the byte at this bit is a space
pub space_at_lowest : (marks : ℕ) (line : List ℕ) → MarksSpaces marks line → marks < 2 ^ 64 → length line ≤ 16 →
    count_trailing_zeros 64 marks < length line → slice_index line (count_trailing_zeros 64 marks) ≡ 32
space_at_lowest marks line is fits short inside = marked marks line (count_trailing_zeros 64 marks) is inside (elim (cases_lt marks 1) [
  | inl lt ↦
      let zero : marks ≡ 0 = omega (arith, lt) in
      let none : count_trailing_zeros 64 marks ≡ 64 = ap (λ (n : ℕ). count_trailing_zeros 64 n) zero ∙ trailing_of_zero 64 in
      absurd (omega (arith, none, inside, short))
  | inr ge ↦ (bit_at-trailing_zeros w64 marks (omega (arith, ge)) fits).1
])

-- bits shifted down mark the spaces of the rest of the line
pub marks_of_rest : (marks : ℕ) (line : List ℕ) (n : ℕ) → MarksSpaces marks line → n ≤ length line →
    MarksSpaces (marks / 2 ^ n) (take (length line - n) (drop n line))
marks_of_rest marks line n is within k inside =
    let below : k < length line - n = omega (arith, inside, length-take (length line - n) (drop n line)) in
    ap (λ (m : ℕ). m % 2) (shr-shr marks n k) ∙ is (n + k) (omega (arith, below)) ∙
    ap (λ (b : ℕ). if b == 32 then 1 else 0) (sym (get_or-take (length line - n) (drop n line) k 0 below ∙ get_or-drop n line k 0))

-- bits that mark the spaces of a text's front also mark the spaces of a shorter front
pub marks_of_front : (marks : ℕ) (text line : List ℕ) (n : ℕ) → MarksSpaces marks (take n text) → n ≤ length text → line ≡ take (length line) text →
    length line ≤ n → MarksSpaces marks line
marks_of_front marks text line n is room front short k inside =
    let below : k < n = omega (arith, inside, short) in
    is k (omega (arith, below, length-take-le n text room)) ∙
    ap (λ (b : ℕ). if b == 32 then 1 else 0) (get_or-take n text k 0 below ∙
    sym (ap (λ (l : List ℕ). get_or l k 0) front ∙ get_or-take (length line) text k 0 inside))

-- the mask of a comparison with a space marks the spaces
pub marks_of_mask : (line : List ℕ) → MarksSpaces (mask_l (map (λ x. eqb x 32) line)) line
marks_of_mask line k inside =
    bit_mask_l (map (λ x. eqb x 32) line) k ∙ ap (λ m. if m then 1 else 0) (get_or-map (λ x. eqb x 32) line k 0 false inside)
