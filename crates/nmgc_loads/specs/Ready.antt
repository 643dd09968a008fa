-- Programs of loads that may be run.
use Rattle.std.specs.Prelude.{ℕ, List}
use Rattle.nmgc_limits.specs.Limits.{most_segment_words}
use Rattle.nmgc_decider.specs.{Ready.AreReady, Ready.IsReady, declared.decider.Decided.Decided}
use Rattle.nmgc_loads.specs.declared.load.Load.{Load}

-- a program of a load may be run: its arrays fit segments of the greatest size
abbrev pub IsLoad : Decided Load → Type 0
IsLoad p = IsReady (λ (d : Load). most_segment_words) (λ (d : Load). Unit {0}) p

-- `count` such programs, which give at most `most` commands together
abbrev pub AreLoads : ℕ → ℕ → List (Decided Load) → Type 0
AreLoads count most ps = AreReady (λ (d : Load). most_segment_words) (λ (d : Load). Unit {0}) count most ps
