-- The working lists between two promotions.
use Rattle.std.specs.Prelude.{ℕ, ◌≡◌, ◌≢◌, ◌+◌, ◌<◌, ◌≤◌, [], length, slice_index}
use Rattle.nmgc_lists.specs.Room.{Room}
use Rattle.nmgc_minor.specs.{declared.placing.Move.Move, declared.young.Young.Young, Young.IsIn}

-- resting lists: they have room for every entry of the table, and only objects that the last promotion found have entries
pub record IsResting (y : Young) (moves : Room Move) : Type 0 where
  pub listed : (k : ℕ) → slice_index y.table.items k ≢ 0 → IsIn y (y.base + k)
  pub tabled : (at : ℕ) → IsIn y at → (y.base ≤ at) × (at < y.base + length y.table.items)
  pub found : length y.table.items ≤ y.found.spare + length y.found.items
  pub room : length y.table.items ≤ moves.spare + length moves.items

-- cleared lists: they have nothing of the last promotion, and room for every entry of the table
pub record IsCleared (y : Young) (moves : Room Move) : Type 0 where
  pub free : (k : ℕ) → slice_index y.table.items k ≡ 0
  pub none : y.found.items ≡ []
  pub found : length y.table.items ≤ y.found.spare
  pub no_moves : moves.items ≡ []
  pub room : length y.table.items ≤ moves.spare
