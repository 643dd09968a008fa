-- The effect of each call of a sweeper on its cycle.
use Rattle.std.specs.Prelude.{ℕ, zero, suc, ◌≡◌, ◌↔◌, ◌+◌, ◌<◌, List, [], ◌∷◌, ◌++◌, length, Contains, Some}
use Rattle.nmgc_world_spec.specs.{declared.value.Name.Name, Reach.AreDistinct}
use Rattle.nmgc_segment.specs.Segment.{Segment, InUse, block_count}
use Rattle.nmgc_alloc.specs.{Halves.SweepsMany, AllocState.nth, AllocState.Segments, AllocState.AllocState, AllocState.SweepsSome, AllocState.StandsFor, Settled.AreSettled}
use Rattle.nmgc_stop_spec.specs.Cycle.{IsKeptIn, Cycle}
use Rattle.nmgc_sweep.specs.{Sweeping.IsSweeping, Seen.CycleSeen, Listing.ListsBlocks, Listing.IsLost, NameTable.AreNamed, NameTable.named_at, Sweeper.Sweeper, Sweeper.AreLeft, Sweeper.HasNotes}

-- a sweeper that starts: it noted all waiting segments, and has listed and freed no name
pub record HasBegun (segments : Segments) (epoch : ℕ) (sweeper : Sweeper) : Type 0 where
  pub epoch_is : sweeper.seen.epoch ≡ epoch
  pub swept : sweeper.seen.swept ≡ sweeper.left
  pub had : sweeper.seen.had ≡ []
  pub freed : sweeper.seen.freed ≡ []
  pub left : AreLeft segments sweeper

-- a sweeper at work: the cycle was closed, and segments and words represent the allocation state. Marks, listed and freed
-- names are right for the cycle, and marks are settled in each segment that doesn't wait
pub record IsAtWork (c : Cycle) (closed : ℕ) (words : List ℕ) (a : AllocState) (segments : Segments) (cycle : CycleSeen) (sweeper : Sweeper) : Type 0 where
  pub stands : StandsFor segments words a
  pub notes : HasNotes c sweeper
  pub sweeping : IsSweeping c closed a segments cycle sweeper.seen
  pub settled : AreSettled c.number segments
  pub begun : 0 < c.number

-- a listed segment: the names in the first unswept segment were listed, and the names that a sweep of it frees
pub record HasListed (segments : Segments) (names : List Name) (before after : Sweeper) : Type 0 where
  pub first : ℕ
  pub left : before.left ≡ first ∷ after.left
  pub had : ListsBlocks (InUse (nth segments.segments first)) (named_at segments.layout names first (nth segments.segments first).class)
      (block_count (nth segments.segments first)) before.seen.had after.seen.had
  pub freed : ListsBlocks (IsLost (nth segments.segments first) before.seen.epoch)
      (named_at segments.layout names first (nth segments.segments first).class) (block_count (nth segments.segments first)) before.seen.freed after.seen.freed
  pub rest : after ≡ record before { seen = record before.seen { had = after.seen.had; freed = after.seen.freed }; left = after.left }

-- listed segments: the names in the first `count` unswept segments were listed, segment by segment
abbrev pub HaveListed : Segments → List Name → ℕ → Sweeper → Sweeper → Type 0
HaveListed segments names zero before after = after ≡ before
HaveListed segments names (suc count) before after = (mid : Sweeper) × HasListed segments names before mid × HaveListed segments names count mid after

-- swept segments: `count` fewer are left. If the array has the names of blocks and the sweeper was at work, the allocation
-- state was swept `count` times and keeps the kept names, and the sweeper is still at work
pub record HasSwept (old new : Segments) (names : List Name) (before after : Sweeper) (count : ℕ) : Type 0 where
  pub left : AreLeft new after
  pub fewer : length after.left + count ≡ length before.left
  pub layout : new.layout ≡ old.layout
  pub epoch : after.seen.epoch ≡ before.seen.epoch
  pub swept : after.seen.swept ≡ before.seen.swept
  pub sweeps : (c : Cycle) (closed : ℕ) (words : List ℕ) (a : AllocState) (cycle : CycleSeen) → AreNamed old.layout names a →
      IsAtWork c closed words a old cycle before → (b : AllocState) × SweepsSome (IsKeptIn c) count a b × IsAtWork c closed words b new cycle after

-- the array has this name for a passing block of one of these segments
abbrev pub IsNameIn : (Segment → ℕ → Type 0) → Segments → List Name → List ℕ → Name → Type 0
IsNameIn Passes segments names numbers name = (number : ℕ) × Contains numbers number × (block : ℕ) ×
    (block < block_count (nth segments.segments number)) × Passes (nth segments.segments number) block ×
    (named_at segments.layout names number (nth segments.segments number).class block ≡ Some name)

-- names were appended to a list: exactly the names for which the predicate holds
pub record GrowsBy (IsOne : Name → Type 0) (old new : List Name) : Type 0 where
  pub added : List Name
  pub is : new ≡ old ++ added
  pub exactly : (name : Name) → Contains added name ↔ IsOne name

-- no two blocks in use of these segments have the same name
abbrev pub AreNamedOnce : Segments → List Name → List ℕ → Type 0
AreNamedOnce segments names numbers = (i j a b : ℕ) (name : Name) → Contains numbers i → Contains numbers j →
    InUse (nth segments.segments i) a → InUse (nth segments.segments j) b →
    named_at segments.layout names i (nth segments.segments i).class a ≡ Some name →
    named_at segments.layout names j (nth segments.segments j).class b ≡ Some name → (i ≡ j) × (a ≡ b)

-- the names freed, for any marks: the first `count` unswept segments were swept by the epoch, as by `count` sweeps. `had`
-- grew by exactly the names that the array has for the blocks in use in these segments. `freed` grew by the names of the
-- blocks among them that weren't marked with the epoch. Each name is added once if no two blocks have the same name
pub record HasJudged (old new : Segments) (names : List Name) (before after : Sweeper) (count : ℕ) : Type 0 where
  pub numbers : List ℕ
  pub many : length numbers ≡ count
  pub left : before.left ≡ numbers ++ after.left
  pub had : GrowsBy (IsNameIn InUse old names numbers) before.seen.had after.seen.had
  pub freed : GrowsBy (IsNameIn (λ segment. IsLost segment before.seen.epoch) old names numbers) before.seen.freed after.seen.freed
  pub once : AreNamedOnce old names numbers → AreDistinct had.added × AreDistinct freed.added
  pub swept : SweepsMany before.seen.epoch count old new
