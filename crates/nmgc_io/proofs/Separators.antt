-- Bytes up to the first separator.
use Rattle.nmgc_io.proofs.Vocabulary.{◌≡◌, ◌≢◌, ◌+◌, ◌-◌, ◌<◌, ◌≤◌, ◌∙◌, ℕ, List, ◌∷◌, ◌++◌, inl, inr, not, eqb, length, get_or, slice_index, take, drop, sym, ap, subst, arith, All, prefix_len, cases_lt, eqb-false, eqb-true, drop_more, length-take-le, get_or-take, get_or-drop, take_rest, All-from_get_or, run_in_chunk_fails, run_in_chunk_stops, chunk, take-append-drop}

-- the bytes of a run are no separators, like the bytes before it
pub others_more : (byte : ℕ) (bytes : List ℕ) (at n run : ℕ) → at + n ≤ length bytes → run ≡ prefix_len (λ x. not (eqb x byte)) (chunk at n bytes) →
    ((k : ℕ) → k < at → slice_index bytes k ≢ byte) → (k : ℕ) → k < at + run → slice_index bytes k ≢ byte
others_more byte bytes at n run room counted before k below =
    elim (cases_lt k at) [
      | inl lt ↦ before k lt
      | inr ge ↦ eqb-false (get_or bytes k 0) byte (run_in_chunk_fails (λ x. eqb x byte) bytes at n run 0 room counted k ge below)
    ]

-- a list is the items before an item, the item, and the items after it
pub cut_at : (bytes : List ℕ) (at byte : ℕ) → at < length bytes → slice_index bytes at ≡ byte →
    bytes ≡ take at bytes ++ byte ∷ take (length bytes - (at + 1)) (drop (at + 1) bytes)
cut_at bytes at byte within found =
    sym (take-append-drop at bytes) ∙
    ap (λ (l : List ℕ). take at bytes ++ l) (drop_more bytes at 0 within ∙ ap (λ (b : ℕ). b ∷ drop (at + 1) bytes) found) ∙
    ap (λ (l : List ℕ). take at bytes ++ byte ∷ l) (sym (take_rest bytes (at + 1)))

-- no byte before a position is the separator
pub others_before : (bytes : List ℕ) (at byte : ℕ) → at ≤ length bytes → ((k : ℕ) → k < at → slice_index bytes k ≢ byte) →
    All (λ b. b ≢ byte) (take at bytes)
others_before bytes at byte within before = All-from_get_or (λ b. b ≢ byte) (take at bytes) 0 (λ k lt.
    let below : k < at = omega (arith, length-take-le at bytes within, lt) in
    subst (λ (b : ℕ). b ≢ byte) (sym (get_or-take at bytes k 0 below)) (before k below))

-- and no byte of the list is the separator if none is found
pub all_others : (bytes : List ℕ) (at byte : ℕ) → at ≡ length bytes → ((k : ℕ) → k < at → slice_index bytes k ≢ byte) → All (λ b. b ≢ byte) bytes
all_others bytes at byte end before = All-from_get_or (λ b. b ≢ byte) bytes 0 (λ k lt. before k (omega (arith, lt, end)))

-- an item of a part of a list is the list's item, counted from the part's beginning
pub part_reads : (whole part : List ℕ) (from k : ℕ) → part ≡ take (length part) (drop from whole) → k < length part →
    slice_index part k ≡ slice_index whole (from + k)
part_reads whole part from k is inside =
    ap (λ (l : List ℕ). get_or l k 0) is ∙ get_or-take (length part) (drop from whole) k 0 inside ∙ get_or-drop from whole k 0

-- no byte of a part before the end of a run is the separator, if the run begins at the part's position
pub part_others : (byte : ℕ) (whole part : List ℕ) (from n run : ℕ) → from + n ≤ length whole →
    run ≡ prefix_len (λ x. not (eqb x byte)) (chunk from n whole) → part ≡ take (length part) (drop from whole) → (k : ℕ) → k < run → k < length part →
    slice_index part k ≢ byte
part_others byte whole part from n run room counted is k below inside =
    let other = eqb-false (get_or whole (from + k) 0) byte (run_in_chunk_fails (λ x.
    eqb x byte) whole from n run 0 room counted (from + k) (omega arith) (omega (arith, below))) in
    subst (λ (b : ℕ). b ≢ byte) (sym (part_reads whole part from k is inside)) other

-- and the byte at its end is the separator
pub part_found : (byte : ℕ) (whole part : List ℕ) (from n run : ℕ) → from + n ≤ length whole →
    run ≡ prefix_len (λ x. not (eqb x byte)) (chunk from n whole) → part ≡ take (length part) (drop from whole) → run < n → run < length part →
    slice_index part run ≡ byte
part_found byte whole part from n run room counted is stops inside =
    part_reads whole part from run is inside ∙
    eqb-true (get_or whole (from + run) 0) byte (run_in_chunk_stops (λ x. eqb x byte) whole from n run 0 room counted stops)
