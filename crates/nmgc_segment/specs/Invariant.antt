-- A segment's invariant, and its blocks that are marked, in the snapshot or unused.
use Rattle.std.specs.Prelude.{ℕ, ◌≡◌, ◌≢◌, ◌<◌, ◌≤◌, ◌⊎◌, ◌↔◌, length}
use Rattle.nmgc_object.specs.{Words.block_size, declared.size.TheConstants.MAX_BLOCK_WORDS, declared.size.TheConstants.MAX_CLASS}
use Rattle.nmgc_segment.specs.{declared.state.TheConstants.MAX_EPOCH, declared.state.State.TheVariants.Free, Segment.Segment, Segment.segment_words, Segment.block_count, Segment.mark_of, Segment.InUse}

-- a correct count of blocks, with a mark byte for each block
pub record HasBlocks (segment : Segment) (blocks : ℕ) : Type 0 where
  pub count : blocks ≡ block_count segment
  pub marked : blocks ≤ length segment.marks

-- a block in the snapshot: it lies below the snapshot's index, or its mark byte isn't 0. It was in use when the snapshot was
-- taken. (The published design has a second set of bits; this test is the project's own.)
abbrev pub InSnapshot : Segment → ℕ → Type 0
InSnapshot segment block = (block < segment.snap) ⊎ (mark_of segment block ≢ 0)

-- a marked block: its mark byte equals the epoch
abbrev pub IsMarked : Segment → ℕ → ℕ → Type 0
IsMarked segment epoch block = mark_of segment block ≡ epoch

-- a segment with a block that isn't in use
abbrev pub HasFree : Segment → Type 0
HasFree segment = segment.next_free < block_count segment

-- the first unused block: the least block that isn't in use
pub record IsFirstUnused (segment : Segment) (block : ℕ) : Type 0 where
  pub exists : block < block_count segment
  pub unused : InUse segment block → ⊥
  pub least : (b : ℕ) → b < block → InUse segment b

-- a segment before and after a change: the same blocks are in use
abbrev pub KeepsUse : Segment → Segment → Type 0
KeepsUse old new = (block : ℕ) → InUse new block ↔ InUse old block

-- a segment before and after a change: the same blocks are in the snapshot
abbrev pub KeepsSnapshot : Segment → Segment → Type 0
KeepsSnapshot old new = (block : ℕ) → InSnapshot new block ↔ InSnapshot old block

-- an unused segment: no block is in use or in a snapshot
pub record IsUnused (segment : Segment) : Type 0 where
  pub next_free : segment.next_free ≡ 0
  pub unmarked : (block : ℕ) → mark_of segment block ≡ 0

-- a segment's invariant: `snap` is at most `next_free`, whose block has mark byte 0; a free segment has no block in use
pub record IsSegment (segment : Segment) : Type 0 where
  pub class : segment.class ≤ MAX_CLASS
  pub fits : block_size segment.class ≤ segment_words segment
  pub words : segment_words segment ≤ MAX_BLOCK_WORDS
  pub snap : segment.snap ≤ segment.next_free
  pub next_free : segment.next_free ≤ block_count segment
  pub next_unmarked : mark_of segment segment.next_free ≡ 0
  pub bytes : (block : ℕ) → mark_of segment block ≤ MAX_EPOCH
  pub no_block : (block : ℕ) → block_count segment ≤ block → mark_of segment block ≡ 0
  pub free : segment.state ≡ Free → IsUnused segment
