use Rattle.nmgc_heap_tests.proofs.Vocabulary.{◌≡◌, ℕ, ◌+◌, ◌<◌, length, slice_index, word_total, HasZeros}
use Rattle.nmgc_heap_tests.proofs.of_round.empty_words.Given as goal

abbrev pub invariant-loop-slot : goal.invariant-loop-slot
invariant-loop-slot l = record {
  total : length l.words.items ≡ word_total l.fn.layout;
  header : slice_index l.words.items 1 ≡ 32771;
  name : slice_index l.words.items 2 ≡ 32;
  slots : (i : ℕ) → i < l.slot → slice_index l.words.items (3 + i) ≡ 1;
  zeros : HasZeros l.words.items;
}
