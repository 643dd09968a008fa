-- Names with room for more, in contracts.
use Rattle.std.specs.Prelude.{ℕ, List}
use Rattle.nmgc_world_spec.specs.declared.value.Name.{Name}

-- names with room: the names, and the number of further names for which there is room
pub record NameRoom : Type 0 where
  pub names : List Name
  pub spare : ℕ
