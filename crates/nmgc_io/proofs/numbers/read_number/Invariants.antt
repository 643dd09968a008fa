use Rattle.nmgc_io.proofs.{Vocabulary.◌≡◌, Vocabulary.◌≤◌, Vocabulary.drop, Vocabulary.all_ascii_digits, Digits.value_after}
use Rattle.nmgc_io.proofs.numbers.read_number.Given as goal

abbrev pub invariant-loop-byte : goal.invariant-loop-byte
invariant-loop-byte l = record {
  value : value_after 0 l.word ≡ value_after l.number (drop l.byte-index l.word);
  digits : all_ascii_digits l.word ≡ all_ascii_digits (drop l.byte-index l.word);
  within : l.number ≤ l.limit;
}
