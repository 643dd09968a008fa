-- The invariant for the induction over a run, at a stop and after a round.
use Rattle.std.specs.Prelude.{◌≡◌, ◌≢◌, ◌+◌, ◌-◌, ◌<◌, ◌^◌, ◌∷◌, ◌++◌}
use Rattle.nmgc_run_laws.specs.laws.Vocabulary.{ℕ, List, [], length, refl, subst, inl, inr, IsSome, Contains, Name, World, IsWorld, serial_of, node_of, shared_name, step, Row, replayed, IsReached, contains_cases, nothing_in, IsWide, CanReplay, replayed_names, wide_known, AllocState, HasBlock, IsEarlier, IsTracked, IsYoung, IsFirstPromoted, snapshots, IsInCycle, AreSoundBlocks, LieKnown, left_of, Plan, State, Progress, idle, marking, sweeping, layout_of}
use Rattle.nmgc_run_laws.specs.laws.Leaving.{rows_keep_headers}

-- rows after rows

pub replayed_more : (w : World) (a b : List Row) → replayed w (a ++ b) ≡ replayed (replayed w a) b
replayed_more w [] b = refl
replayed_more w (row ∷ a) b = replayed_more (step w row.mutator row.command).0 a b

pub can_more : (w : World) (a b : List Row) → CanReplay w a → CanReplay (replayed w a) b → CanReplay w (a ++ b)
can_more w [] b can more = more
can_more w (row ∷ a) b can more = (can.0, can_more (step w row.mutator row.command).0 a b can.1 more)

-- a sound state by its parts, so that a step can exchange one of them. They are the facts of IsSoundState on a world, an
-- allocation state and the collector's progress, with `left` commands for each mutator. It omits that their registers exist,
-- which no stop can change. It also omits that the collector may still use the snapshot, which follows (earlier_then)
pub record IsSoundWith (plan : Plan) (left : ℕ → ℕ) (w : World) (a : AllocState) (p : Progress) : Type 0 where
  pub world : IsWorld w
  pub mutators : length w.mutators ≡ length plan.threads
  pub made : (m : ℕ) → serial_of w m + left m < 2 ^ 32 - 1
  pub sound_blocks : AreSoundBlocks (layout_of plan) a
  pub known : LieKnown w a
  pub cycle : IsInCycle p w a
  pub blocks : (n : Name) → IsTracked w (snapshots p) n → n ≢ shared_name → HasBlock a n

-- the number of commands that a mutator has left
abbrev pub lefts : State → ℕ → ℕ
lefts s m = length (left_of s m)

-- a state with such parts; if its programs can be done too, it is a sound state (sound_of, sound_holds)
abbrev pub IsSoundHere : Plan → State → Type 0
IsSoundHere plan s = IsSoundWith plan (lefts s) s.world s.allocation s.progress

-- the invariant after a round that began with a world: an old tracked name has its block, and a new one is to be promoted
pub record Worked (plan : Plan) (left : ℕ → ℕ) (began w : World) (a : AllocState) (p : Progress) : Type 0 where
  pub world : IsWorld w
  pub mutators : length w.mutators ≡ length plan.threads
  pub made : (m : ℕ) → serial_of w m + left m < 2 ^ 32 - 1
  pub sound_blocks : AreSoundBlocks (layout_of plan) a
  pub old_known : LieKnown began a
  pub known : LieKnown w a
  pub cycle : IsInCycle p w a
  pub old : (n : Name) → IsTracked w (snapshots p) n → n ≢ shared_name → IsSome (node_of began n) → HasBlock a n
  pub young : (n : Name) → IsTracked w (snapshots p) n → IsYoung began w n → IsReached w (IsFirstPromoted began w) n
  pub there : (n : Name) → IsTracked w (snapshots p) n → IsSome (node_of w n)

-- the worlds that the collector still uses have only names of the world
pub snapshot_known : (w : World) (a : AllocState) (p : Progress) → IsInCycle p w a → (e : World) → Contains (snapshots p) e → (n : Name) →
    IsSome (node_of e n) → IsSome (node_of w n)
snapshot_known w a idle h e held n there = absurd (nothing_in e held)
snapshot_known w a (marking c) h e held n there = elim (contains_cases c.snapshot [] e held) [
  | inl same ↦ rw h.1 (replayed_names c.snapshot c.rows h.0.rows n (rw same there))
  | inr none ↦ absurd (nothing_in e none)
]
snapshot_known w a (sweeping c closed) h e held n there = absurd (nothing_in e held)

-- each of them is a world
pub snapshot_world : (w : World) (a : AllocState) (p : Progress) → IsInCycle p w a → (e : World) → Contains (snapshots p) e → IsWorld e
snapshot_world w a idle h e held = absurd (nothing_in e held)
snapshot_world w a (marking c) h e held = elim (contains_cases c.snapshot [] e held) [
  | inl same ↦ subst IsWorld same h.0.world
  | inr none ↦ absurd (nothing_in e none)
]
snapshot_world w a (sweeping c closed) h e held = absurd (nothing_in e held)

-- the world has the names in their wide reach
pub known_then : (w : World) (a : AllocState) (p : Progress) → IsInCycle p w a → (e : World) → Contains (snapshots p) e → (n : Name) → IsWide e n →
    IsSome (node_of w n)
known_then w a p h e held n wide = snapshot_known w a p h e held n (wide_known e (snapshot_world w a p h e held) n wide)

-- the collector may still use them
pub earlier_then : (w : World) (a : AllocState) (p : Progress) → IsInCycle p w a → (e : World) → Contains (snapshots p) e → IsEarlier e w
earlier_then w a idle h e held = absurd (nothing_in e held)
earlier_then w a (marking c) h e held = elim (contains_cases c.snapshot [] e held) [
  | inl same ↦ rw (← same) (rw h.1 (rows_keep_headers c.snapshot c.rows h.0.world h.0.rows))
  | inr none ↦ absurd (nothing_in e none)
]
earlier_then w a (sweeping c closed) h e held = absurd (nothing_in e held)
