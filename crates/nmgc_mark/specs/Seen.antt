-- The contracts' view of a marker.
use Rattle.std.specs.Prelude.{ℕ, List, Bool}

-- a marker in the contracts' view: its epoch, the addresses still to be scanned in order, its room for further addresses, and
-- the number of blocks that it marked. It also has the number of the collector's passes of the gate in the whole run
pub record MarkerSeen : Type 0 where
  pub epoch : ℕ
  pub queue : List ℕ
  pub spare : ℕ
  pub marked : ℕ
  pub turns : ℕ

-- the answer of a marker's last work: the number of objects scanned, and whether the queue is empty
pub record WorkSeen : Type 0 where
  pub scanned : ℕ
  pub empty : Bool
