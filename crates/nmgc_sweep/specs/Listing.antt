-- The names of a segment that a sweeper lists.
use Rattle.std.specs.Prelude.{ℕ, ◌≡◌, ◌<◌, ◌++◌, List, Contains, Option, Some}
use Rattle.nmgc_world_spec.specs.{declared.value.Name.Name, Reach.AreDistinct}
use Rattle.nmgc_segment.specs.{Segment.Segment, Segment.InUse, Invariant.IsMarked}

-- listed names: the names of a segment's passing blocks below `below` were appended, each once if no two passing blocks have
-- the same name. Either all blocks in use pass, or those that aren't marked
pub record ListsBlocks (Passes : ℕ → Type 0) (name : ℕ → Option Name) (below : ℕ) (old new : List Name) : Type 0 where
  pub added : List Name
  pub is : new ≡ old ++ added
  pub from : (n : Name) → Contains added n → (block : ℕ) × (block < below) × Passes block × (name block ≡ Some n)
  pub all : (block : ℕ) (n : Name) → block < below → Passes block → name block ≡ Some n → Contains added n
  pub once : ((a b : ℕ) (n : Name) → Passes a → Passes b → name a ≡ Some n → name b ≡ Some n → a ≡ b) → AreDistinct added

-- a lost block: it is in use, and isn't marked with the epoch, so a sweep of the epoch frees it
abbrev pub IsLost : Segment → ℕ → ℕ → Type 0
IsLost segment epoch block = InUse segment block × (IsMarked segment epoch block → ⊥)
