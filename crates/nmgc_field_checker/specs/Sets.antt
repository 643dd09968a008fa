-- Sets of objects and of mutators.
use Rattle.std.specs.Prelude.{◌≡◌, ◌<◌, ◌≤◌, ◌↔◌, ◌⊎◌, ◌++◌, ℕ, List, [], Option, Some, None, Bool, true, false, slice_index_or, Contains}

-- objects, each once, and the bound below which their numbers are
pub record Objects : Type 0 where
  pub items : List ℕ
  pub bound : ℕ

-- the set without objects, for objects with a number below this bound
abbrev pub no_objects : ℕ → Objects
no_objects bound = record { items = []; bound = bound }

-- a flag for each object below a bound, set exactly for the listed objects
abbrev pub AreFlags : List Bool → List ℕ → Type 0
AreFlags flags objects = (object : ℕ) → (slice_index_or flags object false ≡ true) ↔ Contains objects object

-- the list with items added at its end
abbrev pub Grows : List ℕ → List ℕ → Type 0
Grows before after = (added : List ℕ) × (after ≡ before ++ added)

-- the set together with these objects, except objects with a number that isn't below its bound
pub record Joins (before : Objects) (objects : List ℕ) (after : Objects) : Type 0 where
  pub bound : after.bound ≡ before.bound
  pub items : (object : ℕ) → Contains after.items object ↔ (Contains before.items object ⊎ (Contains objects object × (object < before.bound)))

-- the numbers together with this number
abbrev pub AreAdded : List ℕ → ℕ → List ℕ → Type 0
AreAdded before number after = (other : ℕ) → Contains after other ↔ (Contains before other ⊎ (other ≡ number))

-- the same numbers
abbrev pub AreSame : List ℕ → List ℕ → Type 0
AreSame numbers others = (number : ℕ) → Contains others number ↔ Contains numbers number

-- the least of the numbers, or none if there are none
abbrev pub IsLeast : List ℕ → Option ℕ → Type 0
IsLeast numbers None = numbers ≡ []
IsLeast numbers (Some number) = Contains numbers number × ((other : ℕ) → Contains numbers other → number ≤ other)
