-- The list of weak pointers as it is stored: a row for each maker, with entries that remain after their weak pointers left.
use Rattle.std.specs.Prelude.{ℕ, ◌≡◌, ◌+◌, ◌<◌, ◌≤◌, ◌==◌, ◌&&◌, min, not, Bool, List, [], ◌∷◌, map, filter, length, slice_get, slice_index, Contains, Some}
use Rattle.std.specs.List.{flat_map}
use Rattle.nmgc_limits.specs.declared.mutators.TheConstants.{MAKERS}
use Rattle.nmgc_world_spec.specs.{declared.value.Name.Name, Reach.IsInOrder}
use Rattle.nmgc_object.specs.{Words.IsName, Words.name_word, declared.size.TheConstants.NAME_OFFSET}
use Rattle.nmgc_weak.specs.{declared.row.Entry.Entry, declared.weaks.OldWeak.OldWeak, Weaks.is_alive, Weaks.names_of}

-- a row in the contracts' view: its weak pointers in the list, and its room for further weak pointers
pub record Row : Type 0 where
  pub list : List OldWeak
  pub spare : ℕ

-- the weak pointers of the entries that haven't left
abbrev pub listed : List Entry → List OldWeak
listed entries = map (λ (entry : Entry). entry.weak) (filter (λ (entry : Entry). not entry.left) entries)

-- the names of all entries
abbrev pub entry_names : List Entry → List Name
entry_names entries = map (λ (entry : Entry). entry.weak.weak) entries

-- the entry at this position has this name
pub record IsEntryAt (entries : List Entry) (place : ℕ) (weak : Name) : Type 0 where
  pub entry : Entry
  pub there : slice_get entries place ≡ Some entry
  pub named : entry.weak.weak ≡ weak

-- whether two weak pointers have the same name and address
abbrev pub is_same : OldWeak → OldWeak → Bool
is_same a b = (a.weak.maker == b.weak.maker) && ((a.weak.serial == b.weak.serial) && (a.at.0 == b.at.0))

-- a list with one weak pointer taken out
abbrev pub without : OldWeak → List OldWeak → List OldWeak
without weak list = filter (λ (other : OldWeak). not (is_same other weak)) list

-- the list of weak pointers: the lists of the rows, one after the other
abbrev pub list_of : List Row → List OldWeak
list_of rows = flat_map (λ (row : Row). row.list) rows

-- the number of a name's row: each number of a mutator has a row, and all makers from `MAKERS` on share the last
abbrev pub row_of : Name → ℕ
row_of name = min name.maker MAKERS

-- rows that make up a list: each row has its own makers' names, in order, and room for at least `room` further weak pointers.
-- If `room` isn't 0, no row is missing
pub record AreRows (rows : List Row) (room : ℕ) : Type 0 where
  pub own : (k : ℕ) (row : Row) (weak : OldWeak) → slice_get rows k ≡ Some row → Contains row.list weak → row_of weak.weak ≡ k
  pub ordered : (k : ℕ) (row : Row) → slice_get rows k ≡ Some row → IsInOrder (names_of row.list)
  pub spare : (k : ℕ) (row : Row) → slice_get rows k ≡ Some row → room ≤ row.spare
  pub all : 0 < room → MAKERS + 1 ≤ length rows

-- if a listed weak pointer lies at the address, the name word there is its name: it is found by this name
abbrev pub IsNamedAt : List ℕ → ℕ → List OldWeak → Type 0
IsNamedAt words at list = (weak : OldWeak) → Contains list weak → weak.at.0 ≡ at → IsName weak.weak ×
    (slice_index words (at + NAME_OFFSET) ≡ name_word weak.weak)

-- whether the weak pointer lies at the address and its value word is 0
abbrev pub leaves_at : List ℕ → ℕ → OldWeak → Bool
leaves_at words at weak = (weak.at.0 == at) && not (is_alive words weak)

-- the list after the weak pointer at an address left, if its value word is 0
abbrev pub left_at : List ℕ → ℕ → List OldWeak → List OldWeak
left_at words at list = filter (λ (weak : OldWeak). not (leaves_at words at weak)) list

-- the list after the weak pointers at these addresses left, if their value words are 0
abbrev pub left_of : List ℕ → List ℕ → List OldWeak → List OldWeak
left_of words [] list = list
left_of words (at ∷ places) list = left_of words places (left_at words at list)
