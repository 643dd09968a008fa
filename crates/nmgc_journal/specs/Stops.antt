-- The cycles that ended at a stop, and the cycles left after it.
use Rattle.std.specs.Prelude.{◌≡◌, ℕ, ◌+◌, ◌<◌, ◌≤◌, List, [], ◌∷◌, length, drop}
use Rattle.nmgc_journal.specs.{declared.report.CycleRow.CycleRow, Printing.ended_at}

-- cycles in order: the first ended at stop n or later, and each further cycle no earlier than the cycle before it. A report's
-- text doesn't require this order. The code tests for it, since cycles in order take less time.
abbrev pub AreEndedFrom : ℕ → List CycleRow → Type 0
AreEndedFrom n [] = Unit {0}
AreEndedFrom n (cycle ∷ cycles) = (n ≤ cycle.ended) × AreEndedFrom cycle.ended cycles

-- the cycles after the first `count` are in order, and they are exactly the cycles that ended after stop n
pub record IsRestAfter (n : ℕ) (cycles : List CycleRow) (count : ℕ) : Type 0 where
  pub within : count ≤ length cycles
  pub order : AreEndedFrom (n + 1) (drop count cycles)
  pub all : (m : ℕ) → n < m → ended_at m cycles ≡ ended_at m (drop count cycles)
