-- A set of names: a row of marks for each maker, with a mark for each serial. The set has places for finitely many names.
use Rattle.std.specs.Prelude.{◌≡◌, ℕ, ◌+◌, ◌<◌, List, [], length, Bool, true, false, not, count_by, sum_by, slice_index_or, slice_set, if◌then◌else◌, ◌==◌}
use Rattle.nmgc_world_spec.specs.{declared.value.Name.Name, declared.value.Value.Value, World.World, World.serial_of}
use Rattle.nmgc_limits.specs.declared.mutators.TheConstants.{MAKERS, SHARED_MAKER}
use Rattle.nmgc_world_spec.specs.declared.value.Value.TheVariants as value

-- the marks of one maker's names
abbrev pub row_of : List (List Bool) → ℕ → List Bool
row_of marks maker = slice_index_or marks maker []

-- the mark of a name in a set of names, which has for each maker a row with a mark for each serial
abbrev pub mark_of : List (List Bool) → Name → Bool
mark_of marks name = slice_index_or (row_of marks name.maker) name.serial false

-- the name is in the set
abbrev pub IsMarked : List (List Bool) → Name → Type 0
IsMarked marks name = mark_of marks name ≡ true

-- the set has a place for the name
abbrev pub HasPlace : List (List Bool) → Name → Type 0
HasPlace marks name = name.serial < length (row_of marks name.maker)

-- the value refers to no name, or to a name that the set has a place for
abbrev pub IsPlaced : List (List Bool) → Value → Type 0
IsPlaced marks value.Nil = Unit {0}
IsPlaced marks (value.Number n) = Unit {0}
IsPlaced marks (value.Ref name) = HasPlace marks name

-- the set after this name was added
abbrev pub with_mark : List (List Bool) → Name → List (List Bool)
with_mark marks name = slice_set marks name.maker (slice_set (row_of marks name.maker) name.serial true)

-- the number of names that the set has a place for and doesn't contain
abbrev pub unmarked_count : List (List Bool) → ℕ
unmarked_count marks = sum_by (count_by not) marks

-- the number of names that a maker has in a world
abbrev pub count_of : World → ℕ → ℕ
count_of w maker = if maker == SHARED_MAKER then 1 else serial_of w maker

-- a set of names with a place for exactly the names of a world
pub record HasPlaces (w : World) (marks : List (List Bool)) : Type 0 where
  pub makers : length marks ≡ MAKERS + 1
  pub counts : (maker : ℕ) → length (row_of marks maker) ≡ count_of w maker
