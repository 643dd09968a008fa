use Rattle.std.proofs.Common.{◌≡◌, map, drop}
use Rattle.nmgc_trace_checker.specs.Immediates.{with_tokens, written_in}
use Rattle.nmgc_trace_checker.proofs.immediates.add_tokens.Given as goal

-- the command with the tokens of the rest is the whole command
abbrev pub invariant-loop-place : goal.invariant-loop-place
invariant-loop-place l =
    with_tokens (map (λ w. w.now) l.words) l.places l.place (map (λ w. w.now) (drop l.place l.words)) (written_in l.rewriting) ≡
    with_tokens (map (λ w. w.now) l.words) l.places 0 (map (λ w. w.now) l.words) (written_in l.initial.rewriting)
