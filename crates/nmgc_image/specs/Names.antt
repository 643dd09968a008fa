-- A test for membership in a list of names.
use Rattle.std.specs.Prelude.{◌≡◌, List, Bool, true, Contains}
use Rattle.nmgc_world_spec.specs.declared.value.Name.{Name}
use Rattle.nmgc_object.specs.Words.{IsName}

-- a test is true exactly for the names of a list
pub record IsTestOf (d : Name → Bool) (names : List Name) : Type 0 where
  pub sound : (name : Name) → IsName name → d name ≡ true → Contains names name
  pub complete : (name : Name) → Contains names name → d name ≡ true
