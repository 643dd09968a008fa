-- The meaning of the tests of a block and of a word.
use Rattle.nmgc_weak.proofs.Vocabulary.{◌≡◌, ◌↔◌, ℕ, Bool, sym, subst, IsTrue, Segment, nth, Segments, IsSegments, IsBlockAt, HasAt, same_block}

-- a test of the block that begins at an address
pub block_known : (Such : Segment → ℕ → Type 0) (s : Segments) (number block at : ℕ) (segment : Segment) (t : Bool) → IsSegments s →
    IsBlockAt s number block at → segment ≡ nth s.segments number → IsTrue t ↔ Such segment block → IsTrue t ↔ HasAt Such s at
block_known Such s number block at segment t sound begins is known = (
  λ h. (number, block, begins, subst (λ (x : Segment). Such x block) is (known.0 h)),
  λ h.
      let same = same_block s h.0 h.1 number block at sound h.2 begins in
      let here : Such (nth s.segments number) h.1 = subst (λ (n : ℕ). Such (nth s.segments n) h.1) same.0 h.3 in
      known.1 (subst (λ (x : Segment). Such x block) (sym is) (subst (λ (b : ℕ). Such (nth s.segments number) b) same.1 here)),
)
