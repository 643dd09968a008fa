-- A stop keeps the invariant of a run, step by step.
use Rattle.std.specs.Prelude.{◌≡◌, ◌≢◌, ◌⊎◌, ◌+◌, ◌-◌, ◌<◌, ◌^◌, ◌∷◌}
use Rattle.nmgc_run_laws.specs.laws.Vocabulary.{ℕ, List, [], refl, sym, ap, subst, ◌∙◌, Option, Some, None, inl, inr, IsSome, Contains, Name, Node, World, node_of, shared_name, replayed, closed, contains_cases, nothing_in, closed_world, closed_names, closed_mutators, closed_serials, absent, some_of, Layout, AllocState, HasBlock, LiesNowhere, all_retired, AreFreeEmpty, AllWait, free_empty, placed_has, placed_keeps, placed_back, placed_free, placed_waits, begun_names, retired_names, closing_tracks, tracked_wide, IsTracked, IsYoung, PlacesEach, CycleRow, StopRow, Config, IsKeptIn, Cycle, Closes, ClosesOrWaits, ClosesNow, snapshots, Promotes, IsStop, EndsOrWaits, Finishes, DoesFullCycle, BeginsOrWaits, Proceeds, with_all_retired, SweepsRest, IsOfSnapshot, IsInCycle, LieKnown, State, Plan, Progress, idle, marking, sweeping, layout_of, cycle_started}
use Rattle.nmgc_run_laws.specs.laws.{Filing.each_filed, Filing.places_filed, Filing.begun_filed, Filing.retired_filed, States.IsSoundWith, States.Worked, States.IsSoundHere, States.lefts, Sweeps.each_waits, Sweeps.each_lie, Sweeps.sweeps_keep, Tracks.tracked_fewer, Tracks.tracked_itself}

-- promotion

module _ (layout : Layout) (w : World) where
  each_placed : (a b : AllocState) (names : List Name) → PlacesEach layout w a names b → AreFreeEmpty a → (n : Name) → HasBlock a n ⊎
      Contains names n → HasBlock b n
  each_placed a b [] e free n (inl has) = subst (λ (x : AllocState). HasBlock x n) (sym e) has
  each_placed a b [] e free n (inr held) = absurd (nothing_in n held)
  each_placed a b (name ∷ names) h free n has = each_placed h.0 b names h.2 (placed_free layout a h.0 name.maker h.1.class name h.1.places free) n (next has)
    where
      next : HasBlock a n ⊎ Contains (name ∷ names) n → HasBlock h.0 n ⊎ Contains names n
      next (inl has) = inl (placed_keeps layout a h.0 name.maker h.1.class name h.1.places free n has)
      next (inr held) = elim (contains_cases name names n held) [
        | inl e ↦ inl (subst (λ (x : Name). HasBlock h.0 x) e (placed_has layout a h.0 name.maker h.1.class name h.1.places))
        | inr later ↦ inr later
      ]

  placed_known : (a b : AllocState) (names : List Name) → PlacesEach layout w a names b → LieKnown w a → LieKnown w b
  placed_known a b [] e lie = subst (LieKnown w) (sym e) lie
  placed_known a b (name ∷ names) h lie = placed_known h.0 b names h.2 (λ number block n lies.
      elim (placed_back layout a h.0 name.maker h.1.class name h.1.places number block n lies) [
        | inl e ↦ subst (λ (x : Name). IsSome (node_of w x)) (sym e) (some_of (node_of w name) h.1.node h.1.there)
        | inr old ↦ lie number block n old
      ])

  placed_wait : (P : Name → Type 0) (a b : AllocState) (names : List Name) → PlacesEach layout w a names b → AllWait P a → AllWait P b
  placed_wait P a b [] e waits = subst (λ (x : AllocState). AllWait P x) (sym e) waits
  placed_wait P a b (name ∷ names) h waits = placed_wait P h.0 b names h.2 (placed_waits layout a h.0 name.maker h.1.class name h.1.places P waits)

  placed_cycle : (p : Progress) (a b : AllocState) (names : List Name) → PlacesEach layout w a names b → IsInCycle p w a → IsInCycle p w b
  placed_cycle idle a b names h c = tt
  placed_cycle (marking c) a b names h i = (i.0, i.1, placed_wait (IsOfSnapshot c) a b names h i.2)
  placed_cycle (sweeping c number) a b names h i = (i.0, placed_wait (IsOfSnapshot c) a b names h i.1)

-- a new name lies nowhere, and isn't g
pub young_fresh : (began : World) (a : AllocState) → LieKnown began a → (n : Name) → node_of began n ≡ None → LiesNowhere a n × (n ≢ shared_name)
young_fresh began a known n none = (
  λ number block lies. absent (node_of began n) none (known number block n lies),
  λ e. there (sym (ap (λ (k : Name). node_of began k) e) ∙ none),
)
  where
    there : node_of began shared_name ≡ None → ⊥
    there e = cc

promotion_holds : (plan : Plan) (began : World) (s t : State) (count : ℕ) → Promotes (layout_of plan) began s t count →
    Worked plan (lefts s) began s.world s.allocation s.progress → IsSoundHere plan t
promotion_holds plan began s t count p h = subst (IsSoundHere plan) (sym p.rest) (record {
  world = h.world;
  mutators = h.mutators;
  made = h.made;
  sound_blocks = places_filed (layout_of plan) s.world s.allocation t.allocation p.names h.world p.places p.lists.ordered (λ n c.
      young_fresh began s.allocation h.old_known n (p.lists.sound n c).0.0) h.sound_blocks;
  known = placed_known (layout_of plan) s.world s.allocation t.allocation p.names p.places h.known;
  cycle = placed_cycle (layout_of plan) s.world s.progress s.allocation t.allocation p.names p.places h.cycle;
  blocks = λ n tracked other.
      each_placed (layout_of plan) s.world s.allocation t.allocation p.names p.places
      (free_empty (layout_of plan) s.allocation h.sound_blocks.state) n (by_age n tracked other (node_of began n) refl);
})
  where
    by_age : (n : Name) → IsTracked s.world (snapshots s.progress) n → n ≢ shared_name → (o : Option Node) → node_of began n ≡ o →
        HasBlock s.allocation n ⊎ Contains p.names n
    by_age n tracked other None e = let y : IsYoung began s.world n = (e, h.there n tracked) in inr (p.lists.complete n (y, h.young n tracked y))
    by_age n tracked other (Some node) e = inl (h.old n tracked other (some_of (node_of began n) node e))

-- closing, and the end

close_holds : (plan : Plan) (c : Cycle) (s t : State) → IsSoundWith plan (lefts s) s.world s.allocation (marking c) → Closes c s t → IsSoundHere plan t
close_holds plan c s t h closes =
    let w : World = closed s.world closes.dead in
    let at : w ≡ closed (replayed c.snapshot c.rows) closes.dead = ap (λ (x : World). closed x closes.dead) h.cycle.1 in
    subst (IsSoundHere plan) (sym closes.rest) (record {
      world = closed_world s.world closes.dead h.world;
      mutators = closed_mutators s.world closes.dead h.world ∙ h.mutators;
      made = λ m. subst (λ (n : ℕ). n + lefts s m < 2 ^ 32 - 1) (sym (closed_serials s.world closes.dead h.world m)) (h.made m);
      sound_blocks = h.sound_blocks;
      known = λ number block n lies. closed_names s.world closes.dead h.world n (h.known number block n lies);
      cycle = (record { sound = h.cycle.0; dead = closes.dead; lists = closes.lists; since = []; can = tt; world_is = at }, h.cycle.2);
      blocks = λ n tracked other. h.blocks n (closing_tracks s.world closes.dead (c.snapshot ∷
          []) h.world n (tracked_fewer w (c.snapshot ∷ []) n tracked)) other;
    })

closes_or_waits : (plan : Plan) (quota : ℕ) (p : Progress) (s t : State) → IsSoundWith plan (lefts s) s.world s.allocation p → s.progress ≡ p →
    ClosesOrWaits quota p s t → IsSoundHere plan t
closes_or_waits plan quota idle s t h e same = subst (IsSoundHere plan) (sym same) (rw e h)
closes_or_waits plan quota (marking c) s t h e (inl (same, may)) = subst (IsSoundHere plan) (sym same) (rw e h)
closes_or_waits plan quota (marking c) s t h e (inr closes) = close_holds plan c s t h closes.0
closes_or_waits plan quota (sweeping c number) s t h e same =
    subst (IsSoundHere plan) (sym same) (subst (λ (p : Progress). IsSoundWith plan (lefts s) s.world s.allocation p) (sym e) h)

closes_now : (plan : Plan) (p : Progress) (s t : State) → IsSoundWith plan (lefts s) s.world s.allocation p → s.progress ≡ p → ClosesNow p s t →
    IsSoundHere plan t
closes_now plan idle s t h e same = subst (IsSoundHere plan) (sym same) (subst (λ (p : Progress). IsSoundWith plan (lefts s) s.world s.allocation p) (sym e) h)
closes_now plan (marking c) s t h e closes = close_holds plan c s t h closes
closes_now plan (sweeping c number) s t h e same = subst (IsSoundHere plan) (sym same) (rw e h)

rested : (plan : Plan) (left : ℕ → ℕ) (w : World) (a : AllocState) (c : Cycle) (number : ℕ) → IsSoundWith plan left w a (sweeping c number) →
    IsSoundWith plan left w a idle
rested plan left w a c number h = record {
  world = h.world;
  mutators = h.mutators;
  made = h.made;
  sound_blocks = h.sound_blocks;
  known = h.known;
  cycle = tt;
  blocks = h.blocks;
}

ends_or_waits : (plan : Plan) (p : Progress) (s t : State) (cycles : List CycleRow) → IsSoundWith plan (lefts s) s.world s.allocation p →
    s.progress ≡ p → EndsOrWaits p s t cycles → IsSoundHere plan t
ends_or_waits plan idle s t cycles h e ends = subst (IsSoundHere plan) (sym ends.0) (rw e h)
ends_or_waits plan (marking c) s t cycles h e ends = subst (IsSoundHere plan) (sym ends.0) (rw e h)
ends_or_waits plan (sweeping c number) s t cycles h e (inl ends) =
    subst (IsSoundHere plan) (sym ends.1.rest) (rested plan (lefts s) s.world s.allocation c number h)
ends_or_waits plan (sweeping c number) s t cycles h e (inr waits) =
    subst (IsSoundHere plan) (sym waits.1) (subst (λ (p : Progress). IsSoundWith plan (lefts s) s.world s.allocation p) (sym e) h)

sweeps_rest : (plan : Plan) (left : ℕ → ℕ) (w : World) (a b : AllocState) (p : Progress) → IsSoundWith plan left w a p → SweepsRest p a b →
    IsSoundWith plan left w b p
sweeps_rest plan left w a b idle h same = subst (λ (x : AllocState). IsSoundWith plan left w x idle) (sym same) h
sweeps_rest plan left w a b (marking c) h same = subst (λ (x : AllocState). IsSoundWith plan left w x (marking c)) (sym same) h
sweeps_rest plan left w a b (sweeping c number) h s = record {
  world = h.world;
  mutators = h.mutators;
  made = h.made;
  sound_blocks = each_filed (layout_of plan) (IsKeptIn c) a b s.numbers s.sweeps h.sound_blocks;
  known = each_lie (IsKeptIn c) (λ n. IsSome (node_of w n)) a b s.numbers s.sweeps h.known;
  cycle = (h.cycle.0, each_waits (IsKeptIn c) (IsOfSnapshot c) a b s.numbers s.sweeps h.cycle.1);
  blocks = λ n tracked other. sweeps_keep c w a b _ s h.cycle.0 h.cycle.1 n (tracked_wide w n tracked) (h.blocks n tracked other);
}

pub finishes_holds : (plan : Plan) (s t : State) (cycles : List CycleRow) → Finishes s t cycles → IsSoundHere plan s → IsSoundHere plan t
finishes_holds plan s t cycles f h =
    let closed_holds : IsSoundHere plan f.closed = closes_now plan s.progress s f.closed h refl f.closes in
    let swept_holds : IsSoundHere plan f.swept =
    subst (IsSoundHere plan) (sym f.others) (sweeps_rest plan (lefts f.closed) f.closed.world f.closed.allocation f.swept.allocation
    f.closed.progress closed_holds f.sweeps) in
    ends_or_waits plan f.swept.progress f.swept t cycles swept_holds refl f.ends

-- a cycle's beginning, and retiring

started_holds : (plan : Plan) (s : State) → IsSoundWith plan (lefts s) s.world s.allocation idle → IsSoundHere plan (cycle_started s)
started_holds plan s h = record {
  world = h.world;
  mutators = h.mutators;
  made = h.made;
  sound_blocks = begun_filed (layout_of plan) s.allocation h.sound_blocks;
  known = λ number block n lies. h.known number block n ((begun_names s.allocation number block n).0 lies);
  cycle = (record { world = h.world; rows = tt }, refl, λ number block n is lies. h.known number block n ((begun_names s.allocation number block n).0 lies));
  blocks = λ n tracked other. let has = h.blocks n (tracked_itself s.world n tracked) other in (has.0, has.1, (begun_names s.allocation has.0 has.1 n).1 has.2);
}

filed_holds : (plan : Plan) (s : State) → IsSoundWith plan (lefts s) s.world s.allocation idle →
    IsSoundWith plan (lefts s) s.world (all_retired s.allocation) idle
filed_holds plan s h = record {
  world = h.world;
  mutators = h.mutators;
  made = h.made;
  sound_blocks = retired_filed (layout_of plan) s.allocation h.sound_blocks;
  known = λ number block n lies. h.known number block n ((retired_names s.allocation number block n).0 lies);
  cycle = tt;
  blocks = λ n tracked other. let has = h.blocks n tracked other in (has.0, has.1, (retired_names s.allocation has.0 has.1 n).1 has.2);
}

-- without a cycle in progress fewer names are tracked
idle_holds : (plan : Plan) (left : ℕ → ℕ) (w : World) (a : AllocState) (p : Progress) → IsSoundWith plan left w a p → IsSoundWith plan left w a idle
idle_holds plan left w a idle h = h
idle_holds plan left w a (marking c) h = record {
  world = h.world;
  mutators = h.mutators;
  made = h.made;
  sound_blocks = h.sound_blocks;
  known = h.known;
  cycle = tt;
  blocks = λ n tracked other. h.blocks n (tracked_fewer w (c.snapshot ∷ []) n tracked) other;
}
idle_holds plan left w a (sweeping c number) h = rested plan left w a c number h

-- as a full cycle's own cycle begins
pub full_begins : (plan : Plan) (s t : State) (cycles : List CycleRow) (f : DoesFullCycle s t cycles) → IsSoundHere plan s →
    IsSoundHere plan (cycle_started (with_all_retired f.idled))
full_begins plan s t cycles f h =
    let idled : IsSoundHere plan f.idled = finishes_holds plan s f.idled f.before f.finishes h in
    let filed : IsSoundWith plan (lefts f.idled) f.idled.world (all_retired f.idled.allocation) idle =
    filed_holds plan f.idled (idle_holds plan (lefts f.idled) f.idled.world f.idled.allocation f.idled.progress idled) in
    started_holds plan (with_all_retired f.idled) filed

full_holds : (plan : Plan) (s t : State) (cycles : List CycleRow) → DoesFullCycle s t cycles → IsSoundHere plan s → IsSoundHere plan t
full_holds plan s t cycles f h =
    subst (IsSoundHere plan) (sym f.rest) (finishes_holds plan (cycle_started (with_all_retired f.idled)) f.last f.own f.again
    (full_begins plan s t cycles f h))

begins_holds : (plan : Plan) (config : Config) (s t : State) → BeginsOrWaits config s t → IsSoundHere plan s → IsSoundHere plan t
begins_holds plan config s t (inl b) h = subst (IsSoundHere plan) (sym b.1) (started_holds plan s (idle_holds plan (lefts s) s.world s.allocation s.progress h))
begins_holds plan config s t (inr b) h = subst (IsSoundHere plan) (sym b.1) h

proceeds_holds : (plan : Plan) (s t : State) (cycles : List CycleRow) → Proceeds plan s t cycles → IsSoundHere plan s → IsSoundHere plan t
proceeds_holds plan s t cycles (inl f) h = full_holds plan s t cycles f.1 h
proceeds_holds plan s t cycles (inr b) h = begins_holds plan plan.config s t b.1 h

-- a stop

-- after its promotion, its closing and its end
pub record HoldsBetween (plan : Plan) (began : World) (s t : State) (row : StopRow) (cycles : List CycleRow)
    (i : IsStop plan began s t row cycles) : Type 0 where
  pub promoted : IsSoundHere plan i.promoted
  pub closed : IsSoundHere plan i.closed
  pub ended : IsSoundHere plan i.ended
  pub last : IsSoundHere plan t

pub stop_holds : (plan : Plan) (began : World) (s t : State) (row : StopRow) (cycles : List CycleRow) (i : IsStop plan began s t row cycles) →
    Worked plan (lefts s) began s.world s.allocation s.progress → HoldsBetween plan began s t row cycles i
stop_holds plan began s t row cycles i h =
    let promoted : IsSoundHere plan i.promoted = promotion_holds plan began s i.promoted i.count i.promotes h in
    let closed : IsSoundHere plan i.closed = closes_or_waits plan plan.config.quota i.promoted.progress i.promoted i.closed promoted refl i.closes in
    let ended : IsSoundHere plan i.ended = ends_or_waits plan i.closed.progress i.closed i.ended i.first closed refl i.ends in
    record { promoted = promoted; closed = closed; ended = ended; last = proceeds_holds plan i.ended t i.more i.proceeds ended }
