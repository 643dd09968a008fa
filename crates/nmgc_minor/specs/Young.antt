-- The table and the list of the nursery objects that were found.
use Rattle.std.specs.Prelude.{ℕ, ◌≡◌, ◌≢◌, ◌+◌, ◌*◌, ◌<◌, ◌≤◌, ◌⊎◌, ◌^◌, ◌==◌, List, ◌++◌, length, slice_index, slice_index_or, count_by, Contains}
use Rattle.nmgc_object.specs.declared.words.Address.{Address}
use Rattle.nmgc_stop_spec.specs.Strong.{HasStrong, HasHeader}
use Rattle.nmgc_minor.specs.{declared.young.Young.Young, declared.young.TheConstants.FOUND, Found.IsFound}

-- a found object begins at the address
abbrev pub IsIn : Young → ℕ → Type 0
IsIn y at = Contains y.found.items (record { 0 = at })

-- the number of free entries in the table
abbrev pub unfound_count : Young → ℕ
unfound_count y = count_by (λ entry. entry == 0) y.table.items

-- the table and the list agree, and the list has room for the objects not yet found
pub record IsYoung (y : Young) : Type 0 where
  pub fits : y.base + length y.table.items < 2 ^ 32
  pub listed : (k : ℕ) → slice_index y.table.items k ≢ 0 → IsIn y (y.base + k)
  pub tabled : (at : ℕ) → IsIn y at → (k : ℕ) × (at ≡ y.base + k) × (k < length y.table.items) × (slice_index y.table.items k ≡ FOUND)
  pub room : unfound_count y ≤ y.found.spare

-- if the word points to a nursery object, it points into the table
abbrev pub IsWithin : Young → ℕ → Type 0
IsWithin y word = (at : ℕ) → word ≡ 2 * at → y.base ≤ at → at < y.base + length y.table.items

-- the objects to which the given words point, and no others, were added to the found objects, at the end of the list
pub record Notes (old new : Young) (Given : ℕ → Type 0) : Type 0 where
  pub young : IsYoung new
  pub base : new.base ≡ old.base
  pub size : length new.table.items ≡ length old.table.items
  pub more : (added : List Address) × (new.found.items ≡ old.found.items ++ added)
  pub sound : (at : ℕ) → IsIn new at → IsIn old at ⊎ ((old.base ≤ at) × Given (2 * at))
  pub complete : (at : ℕ) → old.base ≤ at → Given (2 * at) → IsIn new at
  pub conserved : unfound_count new + length new.found.items ≡ unfound_count old + length old.found.items
  pub kept_room : new.found.spare + length new.found.items ≡ old.found.spare + length old.found.items

-- the words that point to found objects
abbrev pub PointsIn : Young → ℕ → Type 0
PointsIn y word = (at : ℕ) × (word ≡ 2 * at) × IsIn y at

-- an object that the search can follow: it lies within the words, and its pointers into nurseries point into the table
pub record CanFollow (y : Young) (words : List ℕ) (at : ℕ) : Type 0 where
  pub header : HasHeader words at
  pub within : (word : ℕ) → HasStrong words at word → IsWithin y word

-- the search from the objects found before has ended: exactly the objects that strong fields reach from these are found
pub record Follows (old new : Young) (words : List ℕ) : Type 0 where
  pub young : IsYoung new
  pub base : new.base ≡ old.base
  pub size : length new.table.items ≡ length old.table.items
  pub kept_room : new.found.spare + length new.found.items ≡ old.found.spare + length old.found.items
  pub sound : (at : ℕ) → IsIn new at → IsFound old.base words (PointsIn old) at
  pub complete : (at : ℕ) → IsFound old.base words (PointsIn old) at → IsIn new at

-- the progress of the search: the objects of the list before `next` have been followed
pub record Following (old new : Young) (words : List ℕ) (next : ℕ) : Type 0 where
  pub young : IsYoung new
  pub base : new.base ≡ old.base
  pub size : length new.table.items ≡ length old.table.items
  pub more : (added : List Address) × (new.found.items ≡ old.found.items ++ added)
  pub kept_room : new.found.spare + length new.found.items ≡ old.found.spare + length old.found.items
  pub sound : (at : ℕ) → IsIn new at → IsFound old.base words (PointsIn old) at
  pub within : next ≤ length new.found.items
  pub traced : (i at to : ℕ) → i < next → (slice_index_or new.found.items i (record { 0 = 0 })).0 ≡ at → old.base ≤ to →
      HasStrong words at (2 * to) → IsIn new to
