-- A queue of finalisers in contracts.
use Rattle.std.specs.Prelude.{ℕ, ◌≡◌, ◌*◌, ◌%◌, ◌<◌, ◌≤◌, List, Contains}

-- a queue of finalisers: the words in order, and the number of further words that it has room for
pub record FinQueue : Type 0 where
  pub words : List ℕ
  pub spare : ℕ

-- an upper bound of the pointers in a queue, which are its even words: no pointer is larger
abbrev pub HavePointersUpTo : List ℕ → ℕ → Type 0
HavePointersUpTo words highest = (word : ℕ) → Contains words word → word % 2 ≡ 0 → word ≤ highest

-- pointers below an address: each pointer (even word) among the words leads to an address below it
abbrev pub ArePointersBelow : List ℕ → ℕ → Type 0
ArePointersBelow words place = (word : ℕ) → Contains words word → word % 2 ≡ 0 → word < 2 * place
