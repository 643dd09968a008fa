-- The words of an object's strong fields, and the addresses between which they lie.
use Rattle.std.proofs.Common.{ℕ, ◌≡◌, ◌+◌, ◌-◌, ◌≤◌, ◌<◌, List, arith, sym, ap, subst, ◌∙◌}
use Rattle.std.specs.Prelude.{slice_index}
use Rattle.nmgc_object.specs.{Words.header_word, Words.IsHeader, declared.words.Header.Header, declared.size.TheConstants.HEADER_WORDS}
use Rattle.nmgc_stop_spec.specs.Strong.{HasStrong, IsAmong, IsStrongRange, strong_of}

-- the words of the range are the words of the strong fields
pub strong_read : (words : List ℕ) (at from to w : ℕ) → IsStrongRange words at from to → IsAmong words from to w → HasStrong words at w
strong_read words at from to w s i =
    let first = s.first in
    let last = s.last in
    let e : at + HEADER_WORDS + (i.0 - (at + HEADER_WORDS)) ≡ i.0 = omega (arith, first, i.1) in
    record {
      header = s.header;
      valid = s.valid;
      read = s.read;
      index = i.0 - (at + HEADER_WORDS);
      from = omega (arith, first, i.1);
      before = omega (arith, first, last, i.1, i.2);
      is = ap (λ (k : ℕ). slice_index words k) e ∙ i.3;
    }

pub strong_has : (differ : (a b : Header) → IsHeader a → IsHeader b → header_word a ≡ header_word b → a ≡ b) (words : List ℕ) (at from to w : ℕ) →
    IsStrongRange words at from to → HasStrong words at w → IsAmong words from to w
strong_has differ words at from to w s h =
    let same : h.header ≡ s.header = differ h.header s.header h.valid s.valid (sym h.read ∙ s.read) in
    let low = subst (λ (x : Header). (strong_of words at x).0 ≤ h.index) same h.from in
    let high = subst (λ (x : Header). h.index < (strong_of words at x).1) same h.before in
    let first = s.first in
    let last = s.last in
    (at + HEADER_WORDS + h.index, omega (arith, first, low), omega (arith, last, high), h.is)
