-- A sweeper and its cycle in contracts.
use Rattle.std.specs.Prelude.{ℕ, List}
use Rattle.nmgc_world_spec.specs.declared.value.Name.{Name}

-- a cycle's sweeper: its epoch, the segments that it has to sweep, the names in those swept so far, and the freed names
pub record SweeperSeen : Type 0 where
  pub epoch : ℕ
  pub swept : List ℕ
  pub had : List Name
  pub freed : List Name

-- a cycle in progress: the stop of its snapshot and, after its closing, the stop of the closing, the dead weak pointers, and
-- the number of objects that the cycle keeps
pub record CycleSeen : Type 0 where
  pub from : ℕ
  pub closed : ℕ
  pub dead : List Name
  pub kept : ℕ
