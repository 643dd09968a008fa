-- The number of times that a worker passed the gate.
use Rattle.std.specs.Prelude.{ℕ, zero, suc, ◌+◌, ◌-◌, ◌^◌, min}

-- a worker's count of passes after one more: it stays at 2^64 - 1
abbrev pub next_turn : ℕ → ℕ
next_turn turns = min (turns + 1) (2 ^ 64 - 1)

-- a worker's count of passes after `count` more
abbrev pub passed : ℕ → ℕ → ℕ
passed turns zero = turns
passed turns (suc count) = next_turn (passed turns count)
