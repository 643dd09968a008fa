use Rattle.std.proofs.Common.{◌≡◌, map, drop}
use Rattle.nmgc_trace_checker.specs.Immediates.{is_named}
use Rattle.nmgc_trace_checker.proofs.immediates.is_named.Given as goal

-- the tokens so far don't name the register
abbrev pub invariant-loop-word : goal.invariant-loop-word
invariant-loop-word l = is_named l.number (map (λ w. w.now) (drop l.word-index l.words)) ≡ is_named l.number (map (λ w. w.now) l.words)
