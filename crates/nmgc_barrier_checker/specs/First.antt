-- The first of several, so that a reason can be about one alone.
use Rattle.std.specs.Prelude.{◌≡◌, ◌<◌, ◌⊎◌, ◌++◌, ◌∷◌, List, Contains}
use Rattle.nmgc_world_spec.specs.{declared.value.Name.Name, Reach.IsBefore}
use Rattle.nmgc_barrier_laws.specs.declared.debt.Debt.{Debt}

-- the first name with a property, in the order of names
abbrev pub IsFirstName : (Name → Type 0) → Name → Type 0
IsFirstName P name = P name × ((other : Name) → P other → IsBefore other name → ⊥)

-- the first name in a list with a property
abbrev pub StandsFirst : List Name → (Name → Type 0) → Name → Type 0
StandsFirst names P name = (before : List Name) × (after : List Name) × (names ≡ before ++ name ∷ after) × P name ×
    ((other : Name) → Contains before other → P other → ⊥)

-- a debt is earlier than another: its line is less, or the line is the same and its name is before the other's
abbrev pub IsEarlier : Debt → Debt → Type 0
IsEarlier a b = (a.line < b.line) ⊎ ((a.line ≡ b.line) × IsBefore a.name b.name)

-- the earliest debt with a property
abbrev pub IsEarliest : (Debt → Type 0) → Debt → Type 0
IsEarliest P debt = P debt × ((other : Debt) → P other → IsEarlier other debt → ⊥)
