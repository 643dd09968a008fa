-- Programs of the cache that may be run.
use Rattle.std.specs.Prelude.{ℕ, List}
use Rattle.nmgc_limits.specs.Limits.{most_segment_words}
use Rattle.nmgc_decider.specs.{Ready.AreReady, Ready.IsReady, declared.decider.Decided.Decided}
use Rattle.nmgc_cache.specs.declared.cache.Cache.{Cache}

-- a program of the cache may be run: its arrays fit segments of the greatest size
abbrev pub IsCache : Decided Cache → Type 0
IsCache p = IsReady (λ (d : Cache). most_segment_words) (λ (d : Cache). Unit {0}) p

-- `count` such programs, which give at most `most` commands together
abbrev pub AreCaches : ℕ → ℕ → List (Decided Cache) → Type 0
AreCaches count most ps = AreReady (λ (d : Cache). most_segment_words) (λ (d : Cache). Unit {0}) count most ps
