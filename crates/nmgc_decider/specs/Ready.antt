-- Programs of deciders that may be run.
use Rattle.std.specs.Prelude.{ℕ, ◌<◌, ◌≡◌, ◌≤◌, All, List, length}
use Rattle.nmgc_limits.specs.Limits.{most_segment_words}
use Rattle.nmgc_cycle.specs.Programs.{most_total}
use Rattle.nmgc_decider.specs.{Waiting.IsWaiting, declared.decider.Decided.Decided}

-- a program that may be run: its decider is valid, and its waiting command and its objects fit segments of the greatest size
pub record IsReady {D : Type 0} (words : D → ℕ) (valid : D → Type 0) (p : Decided D) : Type 0 where
  pub valid_is : valid p.decider
  pub waits : IsWaiting (words p.decider) p.left p.waiting
  pub fits : words p.decider ≤ most_segment_words

-- `count` programs that may be run, which give at most `most` commands together
pub record AreReady {D : Type 0} (words : D → ℕ) (valid : D → Type 0) (count most : ℕ) (ps : List (Decided D)) : Type 0 where
  pub counted : length ps ≡ count
  pub ready : All (IsReady words valid) ps
  pub short : most_total (λ (p : Decided D). p.left) ps ≤ most
