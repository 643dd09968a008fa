-- The number of segments that sweeps add to each kind that is searched for.
use Rattle.std.specs.Prelude.{ℕ, ◌≡◌, ◌+◌, ◌<◌, ◌≤◌, ◌⊎◌, List, length, slice_index}
use Rattle.nmgc_limits.specs.Limits.{most_segments}
use Rattle.nmgc_segment.specs.Segment.{Segment}
use Rattle.nmgc_alloc.specs.{declared.filing.Filed.Filed, declared.search.Category.Category, declared.search.Category.TheVariants.Free, declared.search.Category.TheVariants.Active, declared.search.Category.TheVariants.Sweeping, declared.tables.TheConstants.CLASSES, declared.tally.Tally.Tally, AllocState.nth, Search.Is, Search.IsTally, Search.sought_count, Segments.filled_count}

-- a kind that a segment may have after a sweep and that is searched for: free, or active of a class
abbrev pub IsOutcome : Category → Type 0
IsOutcome Free = Unit {0}
IsOutcome (Active class) = class < CLASSES
IsOutcome Sweeping = ⊥

-- the number of segments that sweeps added to the kind
abbrev pub gained : Filed → Category → ℕ
gained filed Free = filed.free
gained filed (Active class) = slice_index filed.active class
gained filed Sweeping = 0

-- counts before any sweep: all are 0
abbrev pub CountsNone : Filed → Type 0
CountsNone filed = ((category : Category) → IsOutcome category → gained filed category ≡ 0) × (filed.filled ≡ 0)

-- small counts: each is at most the greatest number of segments
pub record AreFew (filed : Filed) : Type 0 where
  pub filled : filed.filled ≤ most_segments
  pub each : (category : Category) → IsOutcome category → gained filed category ≤ most_segments

-- counted sweeps: how many segments the sweeps made free, active of each class, and filled
pub record Files (gain : Category → ℕ) (many : ℕ) (old new : List Segment) : Type 0 where
  pub each : (category : Category) → IsOutcome category → sought_count category new ≡ sought_count category old + gain category
  pub filled : filled_count new ≡ filled_count old + many

-- a tally after sweeps: it stays right if `gain` segments from `from` on and below `end` enter its kind, and none leaves it
abbrev pub EntersMany : ℕ → ℕ → ℕ → Tally → Tally → Type 0
EntersMany gain from end old new = (category : Category) (was now : List Segment) → length now ≡ length was → end ≤ length was → IsTally category was old →
    ((i : ℕ) → Is category (nth was i) → Is category (nth now i)) →
    ((i : ℕ) → Is category (nth now i) → Is category (nth was i) ⊎ ((from ≤ i) × (i < end))) →
    sought_count category now ≡ sought_count category was + gain → IsTally category now new
