use Rattle.nmgc_heap_tests.proofs.Vocabulary.{ℕ, zero, suc, ◌≡◌, ◌<◌, ◌≤◌, List, slice_index, inl, inr, arith, HasZeros}
use Rattle.nmgc_heap_tests.proofs.of_minor.stop.are_zeros.Goals as goal

-- word 0 is unused, and so are the words between g and the first segment
zeros_of : (words : List ℕ) → slice_index words 0 ≡ 0 → ((i : ℕ) → 19 ≤ i → i < 32 → slice_index words i ≡ 0) → HasZeros words
zeros_of words first between zero nobody = first
zeros_of words first between (suc i) (inl low) = absurd (omega (arith, low))
zeros_of words first between (suc i) (inr high) = between (suc i) high.0 high.1

pub returns : goal.returns
returns c = λ e. zeros_of c.args.words.now (omega arith) (λ i low high. c.loop-at.invariant i low (omega arith))
