-- Lemmas that crates above also need.
use Rattle.std.proofs.Common.{◌≤◌, ℕ, List, length, ap, arith, Option, Some, None, length-append}
use Rattle.nmgc_io.specs.Text.{Takes}

-- the number of bytes taken is at most the number of known bytes
pub taken_within : (bytes : List ℕ) (new : Option (List ℕ)) (n : ℕ) → Takes (Some bytes) new n → n ≤ length bytes
taken_within bytes None n h = absurd h.1
taken_within bytes (Some left) n h = let a = ap (λ (l : List ℕ). length l) h.1 in let b = length-append h.0 left in let c = h.2 in omega (arith, a, b, c)
