use Rattle.std.proofs.Common.{◌≡◌, ◌≤◌, ◌++◌, map, length}
use Rattle.nmgc_io.specs.{Text.tokens_of, Spaces.MarksSpaces}
use Rattle.nmgc_io.proofs.tokens.cut_short.Given as goal

-- the tokens so far and the tokens of the rest are the line's tokens, and the rest's spaces are marked
abbrev pub invariant-loop-token : goal.invariant-loop-token
invariant-loop-token l = record {
  tokens : map (λ t. t.now) l.tokens.items ++ tokens_of l.rest ≡ tokens_of l.line;
  short : length l.rest ≤ 16;
  marks : MarksSpaces l.marks l.rest;
}

abbrev pub decreases-loop-token : goal.decreases-loop-token
decreases-loop-token l = length l.rest
