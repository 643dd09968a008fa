-- The part of a list that lies before a position in the order of names.
use Rattle.std.specs.Prelude.{ℕ, List}
use Rattle.nmgc_world_spec.specs.{declared.value.Name.Name, Reach.Lists, Reach.IsBefore}

-- the name has property P, and is before the name of this maker and serial
abbrev pub IsEarlier : (Name → Type 0) → ℕ → ℕ → Name → Type 0
IsEarlier P maker serial name = P name × IsBefore name (record { maker = maker; serial = serial })

-- the list has exactly the names with property P before the name of this maker and serial, in order
abbrev pub ListsBefore : (Name → Type 0) → ℕ → ℕ → List Name → Type 0
ListsBefore P maker serial names = Lists (IsEarlier P maker serial) names
