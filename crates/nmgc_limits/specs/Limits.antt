-- The limits of the size of a heap and of the numbers of a run.
--
-- The grammar of scripts and the layout of the heap both cite these numbers. Sizes of the heap's parts are in words.
use Rattle.std.specs.{Prelude.ℕ, Prelude.◌≤◌, Prelude.IsTrue, Int.is_power_of_two}

-- limits of sizes: this definition is the most segments, and the next definitions bound segments, nurseries, the heap, a
-- slice, a quota, a trigger and a script's bytes
abbrev pub most_segments : ℕ
most_segments = 65536

-- the fewest words of a segment
abbrev pub least_segment_words : ℕ
least_segment_words = 16

-- the most words of a segment
abbrev pub most_segment_words : ℕ
most_segment_words = 4096

-- a segment may have this number of words: a power of two from the fewest to the most words of a segment, both included
pub record IsSegmentSize (words : ℕ) : Type 0 where
  pub power : IsTrue (is_power_of_two words)
  pub least : least_segment_words ≤ words
  pub most : words ≤ most_segment_words

-- the most words of a nursery
abbrev pub most_nursery_words : ℕ
most_nursery_words = 4194304

-- the most words of all segments and nurseries together: 2 GiB; a version of scripts may allow fewer
abbrev pub most_heap_words : ℕ
most_heap_words = 268435456

-- the most commands of a slice
abbrev pub most_slice : ℕ
most_slice = 65536

-- the most objects that are marked in a round, and the most segments that are swept in a round
abbrev pub most_quota : ℕ
most_quota = 1048576

-- the most filled segments that a trigger may wait for
abbrev pub most_trigger : ℕ
most_trigger = 65536

-- the most bytes of a script: 64 MiB; a version of scripts may allow fewer
abbrev pub most_script_bytes : ℕ
most_script_bytes = 67108864
