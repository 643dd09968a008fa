use Rattle.nmgc_trace_checker.proofs.{Vocabulary.◌≡◌, Vocabulary.map, Vocabulary.drop, Vocabulary.name_at, Vocabulary.each_at, Each.with_front}
use Rattle.nmgc_trace_checker.proofs.tokens.each_name.Given as goal

-- the names so far and the names of the rest are all names
abbrev pub invariant-loop-word : goal.invariant-loop-word
invariant-loop-word l = with_front l.names (each_at name_at (map (λ w. w.now) (drop l.word-index l.words))) ≡ each_at name_at (map (λ w. w.now) l.words)
