-- Mark bytes that a sweep kept.
use Rattle.std.specs.Prelude.{ℕ, ◌≢◌, ◌↔◌, Bool, IsTrue, List, slice_index}

-- whether any block is marked: true exactly if some mark byte isn't 0
abbrev pub ShowsMarked : List ℕ → Bool → Type 0
ShowsMarked marks marked = IsTrue marked ↔ ((block : ℕ) × (slice_index marks block ≢ 0))
