-- The final value of a list's items, if a `&mut` to them is returned. No public clause cites this module.
use Rattle.std.specs.{Prelude.List, Borrow.Lends, Borrow.Fml, Borrow.RattleType, Borrow.MutBor, Borrow.Array, Box.with_value}
use Rattle.std.specs.Vec as vec
use Rattle.nmgc_lists.specs.{FixedVec.with_items, declared.list.Items.Items, declared.list.Items.TheVariants.Empty, declared.list.Items.TheVariants.Single, declared.list.Items.TheVariants.Pair, declared.list.Items.TheVariants.Many, contracts.list.Items.the_row}

-- the written items, in the memory in which the old items lie
abbrev pub refilled : {T : Type 0} → Items T → List T → Items T
refilled (Empty empty) written = Empty (with_items empty written)
refilled (Single single) written = Single (with_items single written)
refilled (Pair pair) written = Pair (with_items pair written)
refilled (Many items) written = Many (with_value items (vec.with_items items.value written))

-- once the borrow ends, the list has the borrow's final items
abbrev pub LendsThem : (T : RattleType) → MutBor (the_row T).Denot → MutBor (List T.Denot) → Fml
LendsThem T items r = Lends (the_row T) (Array T 0) items r (refilled items.now)
