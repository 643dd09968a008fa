-- The names of objects in segments, in an array by addresses: noted when objects move, and read when a segment is swept.
use Rattle.std.specs.Prelude.{ℕ, ◌≡◌, ◌≢◌, ◌⊎◌, ◌-◌, ◌*◌, ◌/◌, ◌≤◌, ◌++◌, List, length, replicate, slice_get, Contains, Option, Some}
use Rattle.nmgc_world_spec.specs.{declared.value.Name.Name, World.shared_name}
use Rattle.nmgc_object.specs.{declared.layout.Layout.Layout, declared.layout.TheConstants.FIRST_PLACE, declared.size.TheConstants.MIN_BLOCK_WORDS}
use Rattle.nmgc_alloc.specs.AllocState.{block_place, AllocState, LiesIn, cells}
use Rattle.nmgc_heap_spec.specs.Moves.{Moved}

-- the entry of an address: the position in the array of names for the block that begins at the address. The array has an
-- entry for every four words. No two blocks share an entry, since each has at least four words
abbrev pub entry_of : ℕ → ℕ
entry_of at = (at - FIRST_PLACE) / MIN_BLOCK_WORDS

-- an array of `limit` names, whose first entries are given: each missing entry is g's name
abbrev pub padded : ℕ → List Name → List Name
padded limit entries = entries ++ replicate (limit - length entries) shared_name

-- an array with an entry for each block that a segment may have
abbrev pub HaveEntries : Layout → List Name → Type 0
HaveEntries layout names = layout.segments * layout.words ≤ MIN_BLOCK_WORDS * length names

-- the entry of a block of segment `number`, which is of class `class`
abbrev pub named_at : Layout → List Name → ℕ → ℕ → ℕ → Option Name
named_at layout names number class block = slice_get names (entry_of (block_place layout number class block))

-- an array with the names of blocks: the entry of each block that has a name is that name. The other entries may be anything
abbrev pub AreNamed : Layout → List Name → AllocState → Type 0
AreNamed layout names allocation = (number block : ℕ) (name : Name) → LiesIn allocation number block name →
    named_at layout names number (cells allocation number).class block ≡ Some name

-- noted moves: the entry of each new address has the name of the object that moved there, and the other entries are unchanged
pub record HaveNoted (moves : List Moved) (old new : List Name) : Type 0 where
  pub count : length new ≡ length old
  pub entry : (i : ℕ) → ((m : Moved) × Contains moves m × (entry_of m.to ≡ i) × (slice_get new i ≡ Some m.name)) ⊎
      (((m : Moved) → Contains moves m → entry_of m.to ≢ i) × (slice_get new i ≡ slice_get old i))
