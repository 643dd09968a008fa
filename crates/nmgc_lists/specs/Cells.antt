-- The final value of an array whose first items are lent. No public clause cites this module.
use Rattle.std.specs.{Prelude.List, Prelude.length, List.refill, Borrow.Lends, Borrow.Fml, Borrow.RattleType, Borrow.MutBor, Borrow.Array}
use Rattle.nmgc_lists.specs.contracts.cells.Cells.{the_row}

module _ (T N : RattleType) (cells : MutBor (the_row T N).Denot) where
  -- once the borrow r ends, the array begins with the items written through r
  abbrev pub lends_front : MutBor (List T.Denot) → Fml
  lends_front r = Lends (the_row T N) (Array T 0) cells r
      (λ written. record { xs = refill (length cells.now.xs) cells.now.xs written })
