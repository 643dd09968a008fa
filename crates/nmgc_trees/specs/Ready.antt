-- Programs of trees that may be run.
use Rattle.std.specs.Prelude.{ℕ, List}
use Rattle.nmgc_limits.specs.Limits.{least_segment_words}
use Rattle.nmgc_decider.specs.{Ready.AreReady, Ready.IsReady, declared.decider.Decided.Decided}
use Rattle.nmgc_trees.specs.declared.trees.Trees.{Trees}

-- a program of trees may be run: its pairs fit the smallest segments
abbrev pub IsTrees : Decided Trees → Type 0
IsTrees p = IsReady (λ (d : Trees). least_segment_words) (λ (d : Trees). Unit {0}) p

-- `count` such programs, which give at most `most` commands together
abbrev pub AreTrees : ℕ → ℕ → List (Decided Trees) → Type 0
AreTrees count most ps = AreReady (λ (d : Trees). least_segment_words) (λ (d : Trees). Unit {0}) count most ps
