-- The lengths of the items that a list itself has.
use Rattle.std.specs.Prelude.{◌≡◌, length}
use Rattle.nmgc_lists.specs.{declared.list.Items.Items, declared.list.Items.TheVariants.Empty, declared.list.Items.TheVariants.Single, declared.list.Items.TheVariants.Pair, declared.list.Items.TheVariants.Many}

module _ {T : Type 0} where
  -- a pair has two items, a single item is one, and an empty list has none
  abbrev pub HasExactLength : Items T → Type 0
  HasExactLength (Empty empty) = length empty.cells.xs ≡ 0
  HasExactLength (Single single) = length single.cells.xs ≡ 1
  HasExactLength (Pair pair) = length pair.cells.xs ≡ 2
  HasExactLength (Many items) = Unit {0}
