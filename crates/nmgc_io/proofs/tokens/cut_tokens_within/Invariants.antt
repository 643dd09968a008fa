use Rattle.std.proofs.Common.{◌≡◌, ◌+◌, ◌≤◌, ◌++◌, map, length, take, drop}
use Rattle.nmgc_io.specs.Text.{tokens_of}
use Rattle.nmgc_io.proofs.tokens.cut_tokens_within.Given as goal

-- the tokens so far and the tokens of the rest are the line's tokens, and the rest lies in the text at position `from`
abbrev pub invariant-loop-token : goal.invariant-loop-token
invariant-loop-token l = record {
  tokens : map (λ t. t.now) l.tokens.items ++ tokens_of l.rest ≡ tokens_of l.line;
  part : l.rest ≡ take (length l.rest) (drop l.from l.text);
  inside : l.from + length l.rest ≤ length l.text;
}

abbrev pub decreases-loop-token : goal.decreases-loop-token
decreases-loop-token l = length l.rest
