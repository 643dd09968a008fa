use Rattle.nmgc_script.proofs.Vocabulary.{◌≡◌, ◌++◌, map, drop, after_spaces, word_text}
use Rattle.nmgc_script.proofs.printing.push_words.Given as goal

-- the tokens so far have been appended
abbrev pub invariant-loop-word : goal.invariant-loop-word
invariant-loop-word l = l.out.items ++ after_spaces (map word_text (drop l.word-index l.words)) ≡ l.initial.out.items ++ after_spaces (map word_text l.words)
