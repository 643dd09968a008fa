-- Layouts within the limits, and the words that no block has.
use Rattle.std.specs.Prelude.{ℕ, ◌+◌, ◌*◌, ◌%◌, ◌<◌, ◌≤◌}
use Rattle.nmgc_limits.specs.{Limits.most_heap_words, Limits.most_segments, declared.mutators.TheConstants.MAKERS}
pub use Rattle.nmgc_limits.specs.Limits.{IsSegmentSize}
use Rattle.nmgc_object.specs.{Words.block_size, Words.word_total, declared.layout.TheConstants.FIRST_PLACE, declared.layout.Layout.Layout}

-- a layout: sizes of a heap, each within the limits
pub record IsLayout (layout : Layout) : Type 0 where
  pub some : 1 ≤ layout.segments
  pub segments : layout.segments ≤ most_segments
  pub words : IsSegmentSize layout.words
  pub nursery : layout.words ≤ layout.nursery
  pub mutators : (1 ≤ layout.mutators) × (layout.mutators ≤ MAKERS)
  pub heap : layout.segments * layout.words + layout.mutators * layout.nursery ≤ most_heap_words

-- the unused words after the last block of a segment: the remainder of the segment's words divided by the block's words
abbrev pub left_over : Layout → ℕ → ℕ
left_over layout class = layout.words % block_size class

-- a word of the heap above g
pub record InHeap (layout : Layout) (at : ℕ) : Type 0 where
  pub from : FIRST_PLACE ≤ at
  pub before : at < word_total layout
