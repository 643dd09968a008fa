-- The final value of items that lie in a list itself, if they are lent. No public clause cites this module.
use Rattle.std.specs.{Prelude.ℕ, Prelude.List, Prelude.length, List.refill, Borrow.Lends, Borrow.Fml, Borrow.RattleType, Borrow.MutBor, Borrow.Array}
use Rattle.nmgc_lists.specs.{declared.fixed_vec.FixedVec.FixedVec, contracts.fixed_vec.FixedVec.the_row}

-- the list `few` with other items in it
abbrev pub with_items : {T : Type 0} {n : ℕ} → FixedVec T n → List T → FixedVec T n
with_items few written = record few { cells = record { xs = refill (length few.cells.xs) few.cells.xs written } }

-- once the borrow ends, the list has the borrow's final items
abbrev pub lends_items : (T N : RattleType) → MutBor (the_row T N).Denot → MutBor (List T.Denot) → Fml
lends_items T N few r = Lends (the_row T N) (Array T 0) few r (with_items few.now)
