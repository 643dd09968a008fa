use Rattle.nmgc_cycle.proofs.Vocabulary.{◌≡◌, ℕ, ◌+◌, ◌<◌, ◌≤◌, ◌⊎◌, length, slice_index, SHARED_PLACE, HEADER_WORDS, header_word, name_word, SHARED_SLOTS, shared_name, header_of, NIL_WORD, empty_array, word_total}
use Rattle.nmgc_cycle.proofs.collector.empty_words.Given as goal

abbrev pub invariant-loop-slot : goal.invariant-loop-slot
invariant-loop-slot l = record {
  total : length l.words.items ≡ word_total l.fn.layout;
  header : slice_index l.words.items SHARED_PLACE ≡ header_word (header_of empty_array);
  name : slice_index l.words.items (SHARED_PLACE + 1) ≡ name_word shared_name;
  slots : (i : ℕ) → i < l.slot → slice_index l.words.items (SHARED_PLACE + HEADER_WORDS + i) ≡ NIL_WORD;
  zeros : (at : ℕ) → (at < SHARED_PLACE) ⊎ (SHARED_PLACE + HEADER_WORDS + SHARED_SLOTS ≤ at) → slice_index l.words.items at ≡ 0;
}
