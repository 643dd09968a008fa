use Rattle.std.proofs.Common.{◌≡◌, ◌++◌, map, drop}
use Rattle.nmgc_io.specs.Spaced.{after_spaces}
use Rattle.nmgc_trace_checker.proofs.commands.push_words.Given as goal

-- the tokens so far were appended
abbrev pub invariant-loop-word : goal.invariant-loop-word
invariant-loop-word l = l.line.items ++ after_spaces (map (λ w. w.now) (drop l.word-index l.words)) ≡ l.initial.line.items ++
    after_spaces (map (λ w. w.now) l.words)
