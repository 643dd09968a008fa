-- Blocks in use lie apart, above g and below the nurseries.
use Rattle.std.specs.Prelude.{◌≡◌, ◌<◌, ◌≤◌, ◌+◌, ◌-◌, ◌*◌, ◌/◌, ◌⊎◌}
use Rattle.nmgc_stop_spec.specs.laws.Vocabulary.{ℕ, inl, inr, sym, ap, ◌∙◌, arith, mul-le-mul_right, cases_eq, block_size, InSegment, nursery_place, FIRST_PLACE, MIN_BLOCK_WORDS, nth, Segments, block_place, IsSegments, blocks_lie_apart, fits, large, IsOccupied}

-- a block in use lies in one segment
pub occupied_in : (s : Segments) (p size : ℕ) → IsSegments s → (o : IsOccupied s p size) → (i : ℕ) → p ≤ i → i < p + size → InSegment s.layout o.number i
occupied_in s p size sound o i low high =
    let member = sound.members o.number o.begins.exists in
    let class = (nth s.segments o.number).class in
    let positive : 0 < block_size class = let l = large class in omega (arith, l) in
    let count : o.block < s.layout.words / block_size class = let e = ap (λ (k : ℕ). k / block_size class) member.words in
    let b = o.begins.within in omega (arith, e, b) in
    let room = fits s.layout.words (block_size class) o.block positive count in
    let e = o.begins.place in
    let w = o.words in
    let total = sound.count in
    record {
      exists = let x = o.begins.exists in omega (arith, x, total);
      from = omega (arith, e, low);
      before = omega (arith, e, w, high, room);
    }

-- a block in use has one size
pub one_size : (s : Segments) (at x y : ℕ) → IsSegments s → IsOccupied s at x → IsOccupied s at y → x ≡ y
one_size s at x y sound o u = elim (blocks_lie_apart s o.number o.block at u.number u.block at sound o.begins u.begins) [
  | inl is ↦ o.words ∙ ap (λ (k : ℕ). block_size (nth s.segments k).class) is.0 ∙ sym u.words
  | inr (inl left) ↦ let l = large (nth s.segments o.number).class in absurd (omega (arith, left, l))
  | inr (inr right) ↦ let l = large (nth s.segments u.number).class in absurd (omega (arith, right, l))
]

-- two blocks in use are the same, or lie apart
pub occupied_apart : (s : Segments) (p a q b : ℕ) → IsSegments s → IsOccupied s p a → IsOccupied s q b → (p ≡ q) ⊎ ((p + a ≤ q) ⊎ (q + b ≤ p))
occupied_apart s p a q b sound o u = elim (cases_eq p q) [
  | inl e ↦ inl e
  | inr ne ↦ elim (blocks_lie_apart s o.number o.block p u.number u.block q sound o.begins u.begins) [
    | inl same ↦
        let e : p ≡ q = o.begins.place ∙ ap (λ (k : ℕ). block_place s.layout k (nth s.segments k).class o.block) same.0 ∙
        ap (λ (k : ℕ). block_place s.layout u.number (nth s.segments u.number).class k) same.1 ∙ sym u.begins.place in
        inl e
    | inr (inl l) ↦ let w = o.words in inr (inl (omega (arith, w, l)))
    | inr (inr l) ↦ let w = u.words in inr (inr (omega (arith, w, l)))
  ]
]

-- a block in use has at least four words, and lies above g and below the nurseries
pub record IsBlock (base p size : ℕ) : Type 0 where
  pub four : MIN_BLOCK_WORDS ≤ size
  pub above : FIRST_PLACE ≤ p
  pub below : p + size ≤ base

pub is_block : (s : Segments) (base p size : ℕ) → IsSegments s → base ≡ nursery_place s.layout 0 → IsOccupied s p size → IsBlock base p size
is_block s base p size sound emptied o =
    let four : 4 ≤ size = let l = large (nth s.segments o.number).class in let w = o.words in omega (arith, l, w) in
    let first = occupied_in s p size sound o p (omega arith) (omega arith) in
    let last = occupied_in s p size sound o (p + size - 1) (omega arith) (omega arith) in
    let up : (o.number + 1) * s.layout.words ≤ s.layout.segments * s.layout.words =
    let e : o.number + 1 ≤ s.layout.segments = let x = last.exists in omega (arith, x) in mul-le-mul_right s.layout.words e in
    let low = first.from in
    let high = last.before in
    record {
      four = four;
      above = omega (arith, low);
      below = omega (arith, high, up, emptied, four);
    }
