-- A blank marker has room for every block: no segment has more blocks than a quarter of its words.
use Rattle.nmgc_mark.proofs.Vocabulary.{◌≡◌, ℕ, zero, suc, ◌+◌, ◌*◌, ◌/◌, ◌<◌, ◌≤◌, List, [], ◌∷◌, ◌++◌, length, inl, inr, refl, sym, subst, arith, length-append, Contains, mul-le-mul_left, cases_eq, div-add-mod', Contains-append_left, Contains-append_right, contains_head, contains_tail, block_size, least_block, nth, Segments, IsSegments, IsBlockAt, HasRoomToMark, blank, most_blocks}

-- `n` addresses from `at` on, each `size` words after the address before
steps_from : ℕ → ℕ → ℕ → List ℕ
steps_from at size zero = []
steps_from at size (suc n) = at ∷ steps_from (at + size) size n

steps_count : (n at size : ℕ) → length (steps_from at size n) ≡ n
unfolding steps_from
steps_count zero at size = refl
steps_count (suc n) at size = let e = steps_count n (at + size) size in omega arith

steps_have : (n at size k : ℕ) → k < n → Contains (steps_from at size n) (at + k * size)
unfolding steps_from
steps_have zero at size k lt = absurd (omega arith)
steps_have (suc n) at size zero lt = let e : at ≡ at + 0 * size = omega arith in
    subst (λ x. Contains (at ∷ steps_from (at + size) size n) x) e (contains_head at (steps_from (at + size) size n))
steps_have (suc n) at size (suc k) lt =
    let e : at + size + k * size ≡ at + suc k * size = omega arith in
    rw e at (contains_tail at (steps_from (at + size) size n) (at + size + k * size)
    (steps_have n (at + size) size k (omega arith)))

module _ (s : Segments) where
  -- the words of a segment's blocks, their number, and their addresses
  abbrev size_in : ℕ → ℕ
  size_in n = block_size (nth s.segments n).class

  abbrev count_in : ℕ → ℕ
  count_in n = s.layout.words / size_in n

  abbrev blocks_in : ℕ → List ℕ
  blocks_in n = steps_from (32 + n * s.layout.words) (size_in n) (count_in n)

  -- the addresses of the blocks of the first segments, up to a number
  blocks_to : ℕ → List ℕ
  blocks_to zero = []
  blocks_to (suc n) = blocks_to n ++ blocks_in n

  few_in : (n : ℕ) → 4 * count_in n ≤ s.layout.words
  few_in n =
      let whole = div-add-mod' s.layout.words (size_in n) in
      let up = mul-le-mul_left (count_in n) (least_block (nth s.segments n).class) in
      omega (arith, whole, up)

  few_to : (n : ℕ) → 4 * length (blocks_to n) ≤ n * s.layout.words
  unfolding blocks_to
  few_to zero = omega arith
  few_to (suc n) =
      let before = few_to n in
      let here = few_in n in
      let count = steps_count (count_in n) (32 + n * s.layout.words) (size_in n) in
      let all = length-append (blocks_to n) (blocks_in n) in
      let next : suc n * s.layout.words ≡ n * s.layout.words + s.layout.words = omega arith in
      omega (arith, before, here, count, all, next)

  have_to : (k n b : ℕ) → n < k → b < count_in n → Contains (blocks_to k) (32 + n * s.layout.words + b * size_in n)
  unfolding blocks_to
  have_to zero n b lt inside = absurd (omega arith)
  have_to (suc m) n b lt inside = elim (cases_eq n m) [
    | inl e ↦
        let there = steps_have (count_in n) (32 + n * s.layout.words) (size_in n) b inside in
        let here = subst (λ (i : ℕ). Contains (blocks_in i) (32 + n * s.layout.words + b * size_in n)) e there in
        Contains-append_right (blocks_to m) (blocks_in m) (32 + n * s.layout.words + b * size_in n) here
    | inr ne ↦ Contains-append_left (blocks_to m) (blocks_in m) (32 + n * s.layout.words + b * size_in n) (have_to m n b (omega arith) inside)
  ]

  -- the address of a block is among these
  block_there : (at : ℕ) → IsSegments s → (n b : ℕ) → IsBlockAt s n b at → Contains (blocks_to s.layout.segments) at
  block_there at sound n b g =
      let exists = g.exists in
      let count = sound.count in
      let inside : b < count_in n = subst (λ (k : ℕ). b < k / size_in n) (sound.members n exists).words g.within in
      subst (λ x. Contains (blocks_to s.layout.segments) x) (sym g.place) (have_to s.layout.segments n b (omega (arith, exists, count)) inside)

pub blank_room : (s : Segments) (epoch : ℕ) → IsSegments s → HasRoomToMark s (blank epoch (most_blocks s.layout))
blank_room s epoch sound = record {
  places = blocks_to s s.layout.segments;
  all = λ at g fresh. block_there s at sound g.0 g.1 g.2;
  room = let e = few_to s s.layout.segments in omega (arith, e);
}
