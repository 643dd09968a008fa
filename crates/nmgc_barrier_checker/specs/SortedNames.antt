-- Names in order, each once, and the position of a name among them.
use Rattle.std.specs.Prelude.{◌≡◌, ◌↔◌, ◌<◌, ◌≤◌, ℕ, List, length, slice_index_or, Bool, true, false, Contains}
use Rattle.nmgc_world_spec.specs.{declared.value.Name.Name, Reach.IsBefore}

-- the name is at this position in the list
abbrev pub StandsAt : List Name → ℕ → Name → Type 0
StandsAt names place name = (place < length names) × (slice_index_or names place name ≡ name)

-- bounds for the position of a name: names at positions below `least` come before the name, and names at `end` or above don't
pub record IsBetween (names : List Name) (name : Name) (least end : ℕ) : Type 0 where
  pub most : end ≤ length names
  pub before : (i : ℕ) (n : Name) → StandsAt names i n → i < least → IsBefore n name
  pub others : (i : ℕ) (n : Name) → StandsAt names i n → end ≤ i → IsBefore n name → ⊥

-- the position of a name: the number of names before it
abbrev pub IsPlaceOf : List Name → Name → ℕ → Type 0
IsPlaceOf names name place = IsBetween names name place place

-- a list that says for each position whether the name at this position is among `others`
pub record AreMet (names others : List Name) (met : List Bool) : Type 0 where
  pub places : length met ≡ length names
  pub same : (i : ℕ) (n : Name) → StandsAt names i n → (slice_index_or met i false ≡ true) ↔ Contains others n
