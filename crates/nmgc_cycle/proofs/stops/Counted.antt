-- The collector's passes of the gate: a stop's steps add none, and a round adds its scans or swept segments.
use Rattle.nmgc_cycle.proofs.Vocabulary.{ℕ, ◌≡◌, ◌∙◌, ◌-◌, Bool, inl, inr, List, refl, sym, ap, subst, arith, Segments, Round, passed, RoundSeat, Opening, Script, Name, Collector, Marking, Doing, Sweeping, AddsTo, HasTaken, IsClosed, Closes, Ends, HasStarted, Begins, HasHelped, remembered_by, swept_beside, worked_on, upper_worked_on, HasSweptRest, HasFinished, HasDoneFull, turns_by, turns_of, upper_turns_by, upper_turns_of, words_in, DidSlices, ◌/◌}
use Rattle.nmgc_cycle.specs.Full.{ClosesNow, SweepsRest, Proceeds, with_all_retired}
use Rattle.nmgc_cycle.specs.declared.progress.Progress.TheVariants as doing
use Rattle.nmgc_cycle.proofs.{cycles.FullCycle.finished_idle, stops.StopEnds.IsStepped}

-- both counts: the collector's own, and the upper halves' of its sweeps
abbrev counts_by : Doing → ℕ → ℕ → ℕ × ℕ
counts_by p turns upper = (turns_by p turns, upper_turns_by p upper)

abbrev counts_of : Collector → ℕ × ℕ
counts_of c = counts_by c.cycle.progress c.cycle.turns c.cycle.upper_turns

both : {a b x y : ℕ} → a ≡ b → x ≡ y → ◌≡◌ {A = ℕ × ℕ} (a, x) (b, y)
both p q = λ i. (p i, q i)

-- A stop

-- the remembered entries were added
taken : (old new : Collector) → HasTaken old new → counts_of new ≡ counts_of old
taken old new h = by old.cycle.progress h.adds
  where
    same : ◌≡◌ {A = ℕ × ℕ} (new.cycle.turns, new.cycle.upper_turns) (old.cycle.turns, old.cycle.upper_turns)
    same = ap (λ (c : Collector). let counts : ℕ × ℕ = (c.cycle.turns, c.cycle.upper_turns) in counts) h.rest

    by : (p : Doing) → AddsTo (remembered_by old.mutators.items) old.heap.segments new.heap.segments p new.cycle.progress →
        counts_by new.cycle.progress new.cycle.turns new.cycle.upper_turns ≡ counts_by p old.cycle.turns old.cycle.upper_turns
    by doing.Idle a = ap (λ (q : Doing). counts_by q new.cycle.turns new.cycle.upper_turns) a.0 ∙ same
    by (doing.Marking m) a = cc (a.1, a.2.turns)
    by (doing.Sweeping w) a = ap (λ (q : Doing). counts_by q new.cycle.turns new.cycle.upper_turns) a.0

-- the cycle was closed
module _ (stop : ℕ) (old new : Collector) where
  done : (m : Marking) (w : Sweeping) → old.cycle.progress ≡ doing.Marking m → new.cycle.progress ≡ doing.Sweeping w →
      IsClosed stop (words_in old.heap.words) (words_in new.heap.words) old.heap.segments new.heap.segments old.heap.weaks new.heap.weaks old.mutators.items
      new.mutators.items m w → counts_of new ≡ counts_of old
  done m w is at h = cc (at, h.is, is)

  closes : (p : Doing) → old.cycle.progress ≡ p → Closes stop p old new → counts_of new ≡ counts_of old
  closes doing.Idle is h = ap counts_of h
  closes (doing.Marking m) is (inl h) = done m h.1.0 is h.1.1 h.1.2
  closes (doing.Marking m) is (inr h) = ap counts_of h.1
  closes (doing.Sweeping w) is h = ap counts_of h

  closes_now : (p : Doing) → old.cycle.progress ≡ p → ClosesNow stop p old new → counts_of new ≡ counts_of old
  closes_now doing.Idle is h = ap counts_of h
  closes_now (doing.Marking m) is h = done m h.0 is h.1 h.2
  closes_now (doing.Sweeping w) is h = ap counts_of h

  ends : (p : Doing) → old.cycle.progress ≡ p → Ends stop p old new → counts_of new ≡ counts_of old
  ends doing.Idle is h = ap counts_of h
  ends (doing.Marking m) is h = ap counts_of h
  ends (doing.Sweeping w) is (inl h) = ap counts_of h.1 ∙ sym (ap (λ (q : Doing). counts_by q old.cycle.turns old.cycle.upper_turns) is)
  ends (doing.Sweeping w) is (inr h) = ap counts_of h.1

  -- the next one began
  starts : old.cycle.progress ≡ doing.Idle → HasStarted stop old new → counts_of new ≡ counts_of old
  starts is h = ap counts_of h.is ∙ both h.starts.turns.0 h.starts.turns.2 ∙ sym (ap (λ (q : Doing). counts_by q old.cycle.turns old.cycle.upper_turns) is)

  begins : (trigger : ℕ) → Begins trigger stop old new → counts_of new ≡ counts_of old
  begins trigger (inl h) = starts h.0.0 h.1
  begins trigger (inr h) = ap counts_of h.1

-- a full cycle was done
swept : (old new : Collector) → HasSweptRest old new → counts_of new ≡ counts_of old
swept old new h = by old.cycle.progress h.sweeps
  where
    same : ◌≡◌ {A = ℕ × ℕ} (new.cycle.turns, new.cycle.upper_turns) (old.cycle.turns, old.cycle.upper_turns)
    same = ap (λ (c : Collector). let counts : ℕ × ℕ = (c.cycle.turns, c.cycle.upper_turns) in counts) h.rest

    by : (p : Doing) → SweepsRest old.heap.segments new.heap.segments old.heap.names p new.cycle.progress →
        counts_by new.cycle.progress new.cycle.turns new.cycle.upper_turns ≡ counts_by p old.cycle.turns old.cycle.upper_turns
    by doing.Idle a = ap (λ (q : Doing). counts_by q new.cycle.turns new.cycle.upper_turns) a.0 ∙ same
    by (doing.Marking m) a = ap (λ (q : Doing). counts_by q new.cycle.turns new.cycle.upper_turns) a.0
    by (doing.Sweeping w) a = ap (λ (q : Doing). counts_by q new.cycle.turns new.cycle.upper_turns) a.1 ∙ both a.2.turns.0 a.2.turns.1

finished : (stop : ℕ) (old new : Collector) → HasFinished stop old new → counts_of new ≡ counts_of old
finished stop old new h = ends stop h.swept new h.swept.cycle.progress refl h.ends ∙ swept h.closed h.swept h.sweeps ∙
    closes_now stop old h.closed old.cycle.progress refl h.closes.closes

full : (stop : ℕ) (old new : Collector) → HasDoneFull stop old new → counts_of new ≡ counts_of old
full stop old new h =
    ap counts_of h.is ∙ finished stop h.started h.last h.again
    ∙ starts stop (with_all_retired h.idled) h.started (finished_idle stop old h.idled h.first) h.starts
    ∙ finished stop old h.idled h.first

proceeds : (trigger : ℕ) (left : Bool) (stop : ℕ) (old new : Collector) → Proceeds trigger left stop old new → counts_of new ≡ counts_of old
proceeds trigger left stop old new (inl h) = full stop old new h.1
proceeds trigger left stop old new (inr h) = begins stop old new trigger h.1

stepped_counts : (script : Script) (old new : Collector) → IsStepped script old new → counts_of new ≡ counts_of old
stepped_counts script old new x =
    proceeds script.config.trigger x.some x.number x.ended new x.proceeds
    ∙ ends x.number x.closed x.ended x.closed.cycle.progress refl x.ends
    ∙ closes x.number x.added x.closed x.added.cycle.progress refl x.closes.closes
    ∙ taken x.promoted x.added x.adds
    ∙ ap counts_of x.promotes.rest

pub stop_counts : (script : Script) (old new : Collector) → IsStepped script old new → turns_of new ≡ turns_of old
stop_counts script old new x = ap (λ (n : ℕ × ℕ). n.0) (stepped_counts script old new x)

pub stop_counts_upper : (script : Script) (old new : Collector) → IsStepped script old new → upper_turns_of new ≡ upper_turns_of old
stop_counts_upper script old new x = ap (λ (n : ℕ × ℕ). n.1) (stepped_counts script old new x)

-- A round

helped : (round : Round) (quota : ℕ) (from seat : RoundSeat) (old new : Segments) (names : List Name) (p q : Doing) (s t : ℕ) → t ≡ s →
    HasHelped round quota from seat old new names p q → turns_by q t ≡ passed (turns_by p s) (worked_on p q)
helped round quota from seat old new names doing.Idle q s t same h =
    subst (λ (x : Doing). turns_by x t ≡ passed (turns_by doing.Idle s) (worked_on doing.Idle x)) (sym h.2) same
helped round quota from seat old new names (doing.Marking m) q s t same h =
    subst (λ (x : Doing). turns_by x t ≡ passed (turns_by (doing.Marking m) s) (worked_on (doing.Marking m) x)) (sym h.1) h.2.turns
helped round quota from seat old new names (doing.Sweeping w) q s t same h =
    let done = h.3 in
    let count : done.count ≡ swept_beside w h.0 = (let fewer = done.swept.fewer in omega (arith, fewer)) in
    rw h.1 (done.turns ∙
    ap (λ (n : ℕ). passed w.sweeper.turns (n - n / 2)) count)

helped_upper : (round : Round) (quota : ℕ) (from seat : RoundSeat) (old new : Segments) (names : List Name) (p q : Doing) (s t : ℕ) → t ≡ s →
    HasHelped round quota from seat old new names p q → upper_turns_by q t ≡ passed (upper_turns_by p s) (upper_worked_on p q)
helped_upper round quota from seat old new names doing.Idle q s t same h =
    subst (λ (x : Doing). upper_turns_by x t ≡ passed (upper_turns_by doing.Idle s) (upper_worked_on doing.Idle x)) (sym h.2) same
helped_upper round quota from seat old new names (doing.Marking m) q s t same h =
    rw h.1 (ap (λ (n : Marking). n.sweeper.upper_turns) h.2.rest)
helped_upper round quota from seat old new names (doing.Sweeping w) q s t same h =
    let done = h.3 in
    let count : done.count ≡ swept_beside w h.0 = (let fewer = done.swept.fewer in omega (arith, fewer)) in
    rw h.1 (done.upper_turns ∙
    ap (λ (n : ℕ). passed w.sweeper.upper_turns (n / 2)) count)

pub round_counts : (script : Script) (o : Opening) (old new : Collector) → DidSlices script o old new →
    turns_of new ≡ passed (turns_of old) (worked_on old.cycle.progress new.cycle.progress)
round_counts script o old new h =
    let beside = h.helped in
    helped beside.round script.config.quota beside.from beside.seat old.heap.segments new.heap.segments old.heap.names old.cycle.progress new.cycle.progress
    old.cycle.turns new.cycle.turns (ap (λ (c : Collector). c.cycle.turns) h.rest) beside.helped

pub round_counts_upper : (script : Script) (o : Opening) (old new : Collector) → DidSlices script o old new →
    upper_turns_of new ≡ passed (upper_turns_of old) (upper_worked_on old.cycle.progress new.cycle.progress)
round_counts_upper script o old new h =
    let beside = h.helped in
    helped_upper beside.round script.config.quota beside.from beside.seat old.heap.segments new.heap.segments old.heap.names old.cycle.progress
    new.cycle.progress old.cycle.upper_turns new.cycle.upper_turns (ap (λ (c : Collector). c.cycle.upper_turns) h.rest) beside.helped
