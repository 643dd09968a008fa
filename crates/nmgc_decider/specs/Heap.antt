-- Heaps of segments of the greatest size.
use Rattle.std.specs.Prelude.{ℕ, ◌≡◌, ◌≤◌}
use Rattle.nmgc_limits.specs.{Limits.most_segment_words, declared.mutators.TheConstants.MAKERS}
use Rattle.nmgc_script.specs.{declared.script.Config.Config, Spelling.FitsConfig, Spelling.version_3, Parts.total_words}

-- there is such a number of mutators, the sizes are within the limits of version 3 for it, and segments have the greatest size
pub record IsHeap (threads : ℕ) (c : Config) : Type 0 where
  pub some : 1 ≤ threads
  pub few : threads ≤ MAKERS
  pub fits : FitsConfig version_3.segments c
  pub words : c.words ≡ most_segment_words
  pub total : total_words c threads ≤ version_3.heap_words
