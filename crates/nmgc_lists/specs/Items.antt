-- The location of a list's items: the list itself or a vector.
use Rattle.std.specs.Prelude.{List}
use Rattle.nmgc_lists.specs.{declared.list.Items.Items, declared.list.Items.TheVariants.Empty, declared.list.Items.TheVariants.Single, declared.list.Items.TheVariants.Pair, declared.list.Items.TheVariants.Many}

module _ {T : Type 0} where
  -- the items of a list, in order: none, one or two in the list itself, or any number in a vector
  abbrev pub items_of : Items T → List T
  items_of (Empty empty) = empty.cells.xs
  items_of (Single single) = single.cells.xs
  items_of (Pair pair) = pair.cells.xs
  items_of (Many items) = items.value.items
