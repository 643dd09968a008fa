-- The names of the objects at addresses, in order.
use Rattle.std.specs.Prelude.{ℕ, ◌≡◌, ◌+◌, ◌<◌, List, length, slice_index, slice_get, Some, Ok, Result, Contains, IsPermutation}
use Rattle.std.specs.{List.AllZip, List.Sorted.IsSortedByKey, Ordering.ordering_then, Ordering.nat_cmp}
use Rattle.nmgc_world_spec.specs.declared.value.Name.{Name}
use Rattle.nmgc_lists.specs.{declared.memory.NoMemory.NoMemory, Room.Room}
use Rattle.nmgc_object.specs.{Words.name_word, Words.IsName, declared.words.Address.Address, declared.size.TheConstants.NAME_OFFSET}

-- the object at the address has this name
abbrev pub HasName : List ℕ → Address → Name → Type 0
HasName words a name = (slice_index words (a.0 + NAME_OFFSET) ≡ name_word name) × IsName name

-- each address has the name of an object, within the words
abbrev pub IsNamed : List ℕ → List Address → Type 0
IsNamed words places = (a : Address) → Contains places a → (a.0 + NAME_OFFSET < length words) × ((name : Name) × HasName words a name)

-- each address of each list has the name of an object, within the words
abbrev pub AreNamed : List ℕ → List (Room Address) → Type 0
AreNamed words lists = (k : ℕ) (xs : Room Address) → slice_get lists k ≡ Some xs → IsNamed words xs.items

-- the key that orders names: by maker, and then by serial
abbrev pub key_of : Name → ℕ × ℕ
key_of name = (name.maker, name.serial)

-- sorted names: no name is before its predecessor in the list
abbrev pub AreSorted : List Name → Type 0
AreSorted names = IsSortedByKey {X = Name} {K = ℕ × ℕ} key_of (λ a b. ordering_then (nat_cmp a.0 b.0) (nat_cmp a.1 b.1)) names

-- the same names, sorted
pub record ArePutInOrder (names ordered : List Name) : Type 0 where
  pub moved : IsPermutation names ordered
  pub sorted : AreSorted ordered

-- the names at the addresses, sorted
pub record NameThem (words : List ℕ) (places : List Address) (names : List Name) : Type 0 where
  pub found : List Name
  pub each : AllZip (HasName words) places found
  pub moved : IsPermutation found names
  pub sorted : AreSorted names

-- the names at the addresses of each list, sorted list by list
abbrev pub NameAll : List ℕ → List (Room Address) → List (List Name) → Type 0
NameAll words lists by = AllZip (λ (xs : Room Address) (names : List Name). NameThem words xs.items names) lists by

-- every reading had memory, and these are the names read
abbrev pub AreAllRead : List (Result (List Name) NoMemory) → List (List Name) → Type 0
AreAllRead read by = AllZip (λ (r : Result (List Name) NoMemory) (names : List Name). r ≡ Ok names) read by
