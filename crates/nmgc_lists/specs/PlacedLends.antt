-- The final value of a list in a vector, if a `&mut` to its items is returned.
use Rattle.std.specs.{Prelude.List, Prelude.length, List.refill, Borrow.Lends, Borrow.Fml, Borrow.RattleType, Borrow.MutBor, Borrow.Array}
use Rattle.nmgc_lists.specs.contracts.vec_list.VecList.{the_row}

-- once the borrow ends, the list has the borrow's final items
abbrev pub LendsItems : (T : RattleType) → MutBor (List T.Denot) → MutBor (List T.Denot) → Fml
LendsItems T list r = Lends (the_row T) (Array T 0) list r (refill (length list.now) list.now)
