use Rattle.std.proofs.Common.{ℕ, ◌≡◌, ◌+◌, ◌≤◌, ◌++◌, List, [], ◌∷◌, length, drop}
use Rattle.nmgc_io.specs.Text.{lines_of}
use Rattle.nmgc_live.proofs.head.count_lines.Given as goal

-- the line feeds so far and the lines of the rest are at most all lines, and all of them if a line feed comes last
abbrev pub invariant-loop-byte : goal.invariant-loop-byte
invariant-loop-byte l = record {
  lines : l.count + length (lines_of (drop l.byte-index l.text)) ≤ length (lines_of l.text);
  all : (front : List ℕ) → l.text ≡ front ++ 10 ∷ [] → l.count + length (lines_of (drop l.byte-index l.text)) ≡ length (lines_of l.text);
  few : l.count ≤ l.byte-index;
}
