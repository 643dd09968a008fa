-- A sweep in a run loses no tracked name.
use Rattle.std.specs.Prelude.{◌∷◌}
use Rattle.nmgc_run_laws.specs.laws.Vocabulary.{ℕ, List, [], sym, subst, Name, World, IsWide, nothing_reachable_is_freed, AllocState, Sweeps, SweepsEach, SweepsSome, HoldsKept, HasBlock, AllLie, AllWait, swept_keeps, swept_back, swept_state, interval_of, IsKeptIn, Cycle, IsOfSnapshot, IsAfterClosing, WaitKnown}

module _ (K : Name → Type 0) (Q : Name → Type 0) where
  next_waits : (a b : AllocState) (number : ℕ) (s : Sweeps a b number (HoldsKept K a number)) → AllWait Q a → AllWait Q b
  next_waits a b number s waits k block n is lies =
      waits k block n (swept_state a b number (HoldsKept K a number) s k is) (swept_back a b number (HoldsKept K a number) s k block n lies)

  -- a sweep adds no name to the segments that wait
  pub each_waits : (a b : AllocState) (numbers : List ℕ) → SweepsEach K a numbers b → AllWait Q a → AllWait Q b
  each_waits a b [] e waits = subst (λ (x : AllocState). AllWait Q x) (sym e) waits
  each_waits a b (number ∷ numbers) h waits = each_waits h.0 b numbers h.2 (next_waits a h.0 number h.1 waits)

  -- a sweep adds no name to any block
  pub each_lie : (a b : AllocState) (numbers : List ℕ) → SweepsEach K a numbers b → AllLie Q a → AllLie Q b
  each_lie a b [] e lie = subst (λ (x : AllocState). AllLie Q x) (sym e) lie
  each_lie a b (number ∷ numbers) h lie = each_lie h.0 b numbers h.2 (λ k block n lies.
      lie k block n (swept_back a h.0 number (HoldsKept K a number) h.1 k block n lies))

  -- a name that can't be lost keeps its block
  each_keeps : (a b : AllocState) (numbers : List ℕ) → SweepsEach K a numbers b → AllWait Q a → (n : Name) → (Q n → (K n → ⊥) → ⊥) → HasBlock a n → HasBlock b n
  each_keeps a b [] e waits n not has = subst (λ (x : AllocState). HasBlock x n) (sym e) has
  each_keeps a b (number ∷ numbers) h waits n not has =
      each_keeps h.0 b numbers h.2 (next_waits a h.0 number h.1 waits) n not
      (swept_keeps a h.0 number (HoldsKept K a number) h.1 n (λ block lies lost. not (waits number block n h.1.least.is.1 lies) (λ k. lost (n, lies, k))) has)

-- a closed cycle sweeps: with rows since its closing, no name of the wide reach loses its block
pub sweeps_keep : (c : Cycle) (w : World) (a b : AllocState) (count : ℕ) → SweepsSome (IsKeptIn c) count a b → IsAfterClosing c w → WaitKnown c a →
    (n : Name) → IsWide w n → HasBlock a n → HasBlock b n
sweeps_keep c w a b count s after waits n wide has = each_keeps (IsKeptIn c) (IsOfSnapshot c) a b s.numbers s.sweeps waits n
    (λ there lost. nothing_reachable_is_freed (interval_of c) after.dead after.since after.sound after.lists after.can n (rw after.world_is at wide) there lost) has
