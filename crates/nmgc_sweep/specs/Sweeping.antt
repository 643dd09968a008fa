-- The sweeper of a cycle: the segments it noted and, after the closing, the names it has listed and freed.
use Rattle.std.specs.Prelude.{ℕ, ◌≡◌, List, slice_get, Some, [], ◌↔◌, Contains}
use Rattle.nmgc_world_spec.specs.{Reach.ListsNumbers, Reach.Counts, Reach.Lists, declared.value.Name.Name}
use Rattle.nmgc_segment.specs.{Marks.epoch_of, Invariant.IsMarked}
use Rattle.nmgc_segment.specs.declared.state.State.TheVariants as stands
use Rattle.nmgc_alloc.specs.AllocState.{nth, Segments, AllocState, LiesIn, IsIn, cells}
use Rattle.nmgc_stop_spec.specs.{Cycle.IsSweptIn, Cycle.Cycle, Cycle.IsKeptIn, Cycle.IsDeadIn, Kept.IsKeptObject, Waiting.AreAsNoted}
use Rattle.nmgc_sweep.specs.Seen.{SweeperSeen, CycleSeen}

-- a list without duplicates, of items of any type: no item is at two positions. For names this is AreDistinct
abbrev pub IsWithoutDoubles : {A : Type 0} → List A → Type 0
IsWithoutDoubles {A} items = (i j : ℕ) (item : A) → slice_get items i ≡ Some item → slice_get items j ≡ Some item → i ≡ j

-- the sweeper has the cycle's epoch, and noted the segments that the cycle sweeps
pub record HasNoted (c : Cycle) (sweeper : SweeperSeen) : Type 0 where
  pub epoch : sweeper.epoch ≡ epoch_of c.number
  pub swept : ListsNumbers (IsSweptIn c) sweeper.swept

-- a sweeper that has listed no name, as before its cycle is closed
abbrev pub HasListedNothing : SweeperSeen → Type 0
HasListedNothing sweeper = (sweeper.had ≡ []) × (sweeper.freed ≡ [])

-- in waiting segments, exactly the blocks whose names the cycle keeps are marked
abbrev pub AreKeptMarked : Cycle → AllocState → Segments → ℕ → Type 0
AreKeptMarked c allocation segments epoch = (number block : ℕ) (name : Name) → IsIn stands.Sweeping (cells allocation number) →
    LiesIn allocation number block name → IsMarked (nth segments.segments number) epoch block ↔ IsKeptIn c name

-- a name listed so far: when the cycle began, it lay in a segment that has been swept since
abbrev pub IsListedSoFar : Cycle → AllocState → Name → Type 0
IsListedSoFar c allocation name = (number block : ℕ) × IsSweptIn c number × (IsIn stands.Sweeping (cells allocation number) → ⊥) × LiesIn c.heap number block name

-- a name freed so far: when the cycle began, it lay in a segment that has been swept since, and the cycle doesn't keep it
abbrev pub IsFreedSoFar : Cycle → AllocState → Name → Type 0
IsFreedSoFar c allocation name = (number block : ℕ) × IsSweptIn c number × (IsIn stands.Sweeping (cells allocation number) → ⊥) ×
    LiesIn c.heap number block name × (IsKeptIn c name → ⊥)

-- the sweeper of a closed cycle: the segments that it noted when the cycle began, and the names listed and freed so far, each
-- once and in any order. Exactly the kept names are marked, and the cycle in contracts has the findings of the cycle's census
pub record IsSweeping (c : Cycle) (closed : ℕ) (allocation : AllocState) (segments : Segments) (cycle : CycleSeen) (sweeper : SweeperSeen) : Type 0 where
  pub from_is : cycle.from ≡ c.from
  pub closed_is : cycle.closed ≡ closed
  pub dead : Lists (IsDeadIn c) cycle.dead
  pub kept : Counts (IsKeptObject c) cycle.kept
  pub noted : HasNoted c sweeper
  pub as_noted : AreAsNoted c allocation
  pub marked : AreKeptMarked c allocation segments sweeper.epoch
  pub had : (name : Name) → Contains sweeper.had name ↔ IsListedSoFar c allocation name
  pub had_once : IsWithoutDoubles sweeper.had
  pub freed : (name : Name) → Contains sweeper.freed name ↔ IsFreedSoFar c allocation name
  pub freed_once : IsWithoutDoubles sweeper.freed
