-- The cycle in progress, over a run: its number, its beginning, and the segments that wait for it.
use Rattle.std.specs.Prelude.{◌≡◌, ◌≢◌, ◌+◌, ◌∷◌}
use Rattle.nmgc_run_laws.specs.laws.Vocabulary.{ℕ, List, [], refl, sym, ap, subst, ◌∙◌, arith, inl, inr, true, false, cases_eq, get_or-set_same, get_or-set_other, Name, World, Row, Stands, Layout, prepared_state, retired_state, AllocState, Cells, Exists, IsIn, IsTarget, NoneIs, PlacesName, Sweeps, SweepsEach, HoldsKept, cells, no_cells, all_retired, begun_cells, retired_cells, swept_other, all_swept, first_cells, used_exists, PlacesEach, CycleRow, StopRow, Config, IsKeptIn, Cycle, ClosesOrWaits, ClosesNow, IsLastBegun, WaitsWhole, IsInCourse, IsStateInCourse, RunsAreInCourse, RoundsStayInCourse, PromotionsStayInCourse, CyclesBeginInCourse, AreAsNoted, noted, SweepsBeside, Turn, AreTurns, state_after, Plan, State, Progress, idle, marking, sweeping, is_idle, start, cycle_started, IsStop, EndsOrWaits, Finishes, DoesFullCycle, BeginsOrWaits, Proceeds, with_all_retired, SweepsRest}
use Rattle.nmgc_segment.specs.declared.state.State.TheVariants as stands

-- a segment that waits exists
waits_there : (a : AllocState) (number : ℕ) → IsIn stands.Sweeping (cells a number) → Exists a number
waits_there a number is = used_exists a number (λ free. let bad : stands.Sweeping ≡ stands.Free = sym is ∙ free in cc)

-- placing touches no waiting segment

-- the same segments wait in both, with the same names
pub record SameWait (a b : AllocState) : Type 0 where
  pub same : (number : ℕ) → IsIn stands.Sweeping (cells a number) → cells b number ≡ cells a number
  pub back : (number : ℕ) → IsIn stands.Sweeping (cells b number) → cells b number ≡ cells a number

module _ (layout : Layout) (a b : AllocState) (m class : ℕ) (name : Name) (p : PlacesName layout a b m class name) where
  target_is : IsTarget a m class p.number → Exists a p.number × (IsIn stands.Sweeping (cells a p.number) → ⊥)
  target_is (inl one) = (one.0, λ is. let bad = sym is ∙ one.1.0 in cc)
  target_is (inr (none, inl first)) = (first.is.0, λ is. let bad = sym is ∙ first.is.1.0 in cc)
  target_is (inr (none, inr (no_active, first))) = (first.is.0, λ is. let bad = sym is ∙ first.is.1 in cc)

  others : (number : ℕ) → number ≢ p.number → cells b number ≡ cells a number
  others number other = elim p.placed [
    | inl h ↦ ap (λ (x : AllocState). cells x number) h.1 ∙ get_or-set_other a.segments p.number number _ no_cells other
    | inr h ↦ ap (λ (x : AllocState). cells x number) h.1 ∙ get_or-set_other a.segments p.number number _ no_cells other
  ]

  none_here : IsIn stands.Sweeping (cells b p.number) → ⊥
  none_here is = elim p.placed [
    | inl h ↦ let at = ap (λ (c : Cells). c.state) (ap (λ (x : AllocState). cells x p.number) h.1 ∙ get_or-set_same a.segments p.number _ no_cells (target_is p.target).0) in
        let bad = sym is ∙ at in cc
    | inr h ↦ let at = ap (λ (c : Cells). c.state) (ap (λ (x : AllocState). cells x p.number) h.1 ∙ get_or-set_same a.segments p.number _ no_cells (target_is p.target).0) in
        let bad = sym is ∙ at in cc
  ]

  pub placing_waits : SameWait a b
  placing_waits = record {
    same = λ number is. elim (cases_eq number p.number) [
      | inl e ↦ absurd ((target_is p.target).1 (ap (λ (k : ℕ). (cells a k).state) (sym e) ∙ is))
      | inr other ↦ others number other
    ];
    back = λ number is. elim (cases_eq number p.number) [
      | inl e ↦ absurd (none_here (ap (λ (k : ℕ). (cells b k).state) (sym e) ∙ is))
      | inr other ↦ others number other
    ];
  }

pub all_placing_waits : (layout : Layout) (w : World) (a b : AllocState) (names : List Name) → PlacesEach layout w a names b → SameWait a b
all_placing_waits layout w a b [] e = record {
  same = λ number is. ap (λ (x : AllocState). cells x number) e;
  back = λ number is. ap (λ (x : AllocState). cells x number) e;
}
all_placing_waits layout w a b (name ∷ names) h =
    let one : SameWait a h.0 = placing_waits layout a h.0 name.maker h.1.class name h.1.places in
    let more : SameWait h.0 b = all_placing_waits layout w h.0 b names h.2 in
    record {
      same = λ number is. let e = one.same number is in more.same number (ap (λ (c : Cells). c.state) e ∙ is) ∙ e;
      back = λ number is. let e = more.back number is in e ∙ one.back number (ap (λ (c : Cells). c.state) (sym e) ∙ is);
    }

pub still_noted : (c : Cycle) (a b : AllocState) → SameWait a b → AreAsNoted c a → AreAsNoted c b
still_noted c a b w h number is =
    let e = w.back number is in
    let was = h number (ap (λ (x : Cells). x.state) (sym e) ∙ is) in (was.0, ap (λ (x : Cells). x.names) e ∙ was.1)

same_waits : (p : Progress) (number begun : ℕ) (a b : AllocState) → SameWait a b → IsInCourse p number begun a → IsInCourse p number begun b
same_waits idle number begun a b w h = λ k there is. let at = ap (λ (x : Cells). x.state) (sym (w.back k is)) ∙ is in h k (waits_there a k at) at
same_waits (marking c) number begun a b w h = (
  h.0,
  record {
    as_noted = still_noted c a b w h.1.as_noted;
    all = λ k swept. let is = h.1.all k swept in ap (λ (x : Cells). x.state) (w.same k is) ∙ is;
  },
)
same_waits (sweeping c closed) number begun a b w h = (h.0, still_noted c a b w h.1)

pub promotions_stay : PromotionsStayInCourse
promotions_stay layout began s t count p h =
    subst IsStateInCourse (sym p.rest) (same_waits s.progress s.number s.begun s.allocation t.allocation
    (all_placing_waits layout s.world s.allocation t.allocation p.names p.places) h)

-- a sweep leaves the segments that still wait as they were

module _ (K : Name → Type 0) where
  swept_back : (a b : AllocState) (number : ℕ) (s : Sweeps a b number (HoldsKept K a number)) (k : ℕ) → IsIn stands.Sweeping (cells b k) → cells b k ≡ cells a k
  swept_back a b number s k is = elim (cases_eq k number) [
    | inl e ↦
        let at : (cells b number).state ≡ stands.Sweeping = ap (λ (i : ℕ). (cells b i).state) (sym e) ∙ is in
        elim s.swept [
          | inl h ↦ absurd (let f = sym (ap (λ (c : Cells). c.state) h.1) ∙ at in cc)
          | inr (inl h) ↦ absurd (let f = sym (ap (λ (c : Cells). c.state) h.1) ∙ at in cc)
          | inr (inr h) ↦ absurd (let f = sym (ap (λ (c : Cells). c.state) h.2) ∙ at in cc)
        ]
    | inr other ↦ swept_other a b number (HoldsKept K a number) s k other
  ]

  pub all_swept_back : (a b : AllocState) (numbers : List ℕ) → SweepsEach K a numbers b → (k : ℕ) → IsIn stands.Sweeping (cells b k) → cells b k ≡ cells a k
  all_swept_back a b [] e k is = ap (λ (x : AllocState). cells x k) e
  all_swept_back a b (number ∷ numbers) h k is =
      let later = all_swept_back h.0 b numbers h.2 k is in
      later ∙ swept_back a h.0 number h.1 k (ap (λ (c : Cells). c.state) (sym later) ∙ is)

sweep_noted : (c : Cycle) (a b : AllocState) (numbers : List ℕ) → SweepsEach (IsKeptIn c) a numbers b → AreAsNoted c a → AreAsNoted c b
sweep_noted c a b numbers s h number is =
    let e = all_swept_back (IsKeptIn c) a b numbers s number is in
    let was = h number (ap (λ (x : Cells). x.state) (sym e) ∙ is) in (was.0, ap (λ (x : Cells). x.names) e ∙ was.1)

later : (c : Cycle) (number begun : ℕ) → IsLastBegun c number begun → IsLastBegun c (number + 1) begun
later c number begun h = let before = h.from_before in record { number_is = h.number_is; some = h.some; from_before = omega (arith, before) }

round_course : (quota : ℕ) (p : Progress) (number begun : ℕ) (a b : AllocState) (rows : List Row) → SweepsBeside quota p a b →
    IsInCourse p number begun a → IsInCourse (noted p rows) (number + 1) begun b
round_course quota idle number begun a b rows same h = subst (λ (x : AllocState). NoneIs (IsIn stands.Sweeping) x) (sym same) h
round_course quota (marking c) number begun a b rows same h =
    let last = later c number begun h.0 in
    let whole : WaitsWhole c b = subst (WaitsWhole c) (sym same) h.1 in (
      record { number_is = last.number_is; some = last.some; from_before = last.from_before },
      record { as_noted = whole.as_noted; all = whole.all },
    )
round_course quota (sweeping c closed) number begun a b rows s h = (later c number begun h.0, sweep_noted c a b s.numbers s.sweeps h.1)

pub rounds_stay : RoundsStayInCourse
rounds_stay config s t replies rows r h =
    subst IsStateInCourse (sym r.rest) (round_course config.quota s.progress s.number s.begun s.allocation t.allocation rows r.swept h)

-- a cycle begins

begun_waits : (s : Stands) → prepared_state s ≡ stands.Sweeping → (s ≢ stands.Sweeping) → s ≡ stands.Filled
begun_waits stands.Free e not = absurd cc
begun_waits (stands.Current m) e not = absurd cc
begun_waits stands.Active e not = absurd cc
begun_waits stands.Filled e not = refl
begun_waits stands.Sweeping e not = absurd (not refl)

pub retired_waits : (s : Stands) → retired_state s ≡ stands.Sweeping → s ≡ stands.Sweeping
retired_waits stands.Free e = absurd cc
retired_waits (stands.Current m) e = absurd cc
retired_waits stands.Active e = absurd cc
retired_waits stands.Filled e = absurd cc
retired_waits stands.Sweeping e = refl

pub cycles_begin : CyclesBeginInCourse
cycles_begin s none = (
  record { number_is = refl; some = omega arith; from_before = omega arith },
  record {
    as_noted = λ number is.
        let cell = begun_cells s.allocation number in
        let filled : (cells s.allocation number).state ≡ stands.Filled =
        begun_waits (cells s.allocation number).state (cc (cell, is)) (λ waits. none number (waits_there s.allocation number waits) waits) in
        ((used_exists s.allocation number (λ free. let bad : stands.Filled ≡ stands.Free = sym filled ∙ free in cc), filled), ap (λ (c : Cells). c.names) cell);
    all = λ number swept. ap (λ (c : Cells). c.state) (begun_cells s.allocation number) ∙ ap prepared_state swept.1;
  },
)

pub none_retired : (a : AllocState) → NoneIs (IsIn stands.Sweeping) a → NoneIs (IsIn stands.Sweeping) (all_retired a)
none_retired a none number there is =
    let at = retired_waits (cells a number).state (sym (ap (λ (c : Cells). c.state) (retired_cells a number)) ∙ is) in
    none number (waits_there a number at) at

-- the steps of a stop

closes_course : (quota : ℕ) (p : Progress) (s t : State) → IsInCourse p s.number s.begun s.allocation → s.progress ≡ p → ClosesOrWaits quota p s t →
    IsStateInCourse t
closes_course quota idle s t h e same = subst IsStateInCourse (sym same) (subst (λ (p : Progress). IsInCourse p s.number s.begun s.allocation) (sym e) h)
closes_course quota (marking c) s t h e (inl (same, may)) = subst IsStateInCourse (sym same) (rw e h)
closes_course quota (marking c) s t h e (inr closes) = subst IsStateInCourse (sym closes.0.rest) (h.0, h.1.as_noted)
closes_course quota (sweeping c number) s t h e same = subst IsStateInCourse (sym same) (rw e h)

ends_course : (p : Progress) (s t : State) (cycles : List CycleRow) → IsInCourse p s.number s.begun s.allocation → s.progress ≡ p →
    EndsOrWaits p s t cycles → IsStateInCourse t
ends_course idle s t cycles h e ends = subst IsStateInCourse (sym ends.0) (subst (λ (p : Progress). IsInCourse p s.number s.begun s.allocation) (sym e) h)
ends_course (marking c) s t cycles h e ends = subst IsStateInCourse (sym ends.0) (rw e h)
ends_course (sweeping c number) s t cycles h e (inl ends) = subst IsStateInCourse (sym ends.1.rest) ends.0
ends_course (sweeping c number) s t cycles h e (inr waits) = subst IsStateInCourse (sym waits.1) (rw e h)

-- a cycle that was closed, swept and ended leaves no segment that waits, and an idle collector
record IsQuiet (t : State) : Type 0 where
  is_idle : t.progress ≡ idle
  none : NoneIs (IsIn stands.Sweeping) t.allocation

finishes : (s t : State) (cycles : List CycleRow) → Finishes s t cycles → IsStateInCourse s → IsQuiet t
finishes s t cycles f h = by s.progress refl h (subst (λ (p : Progress). ClosesNow p s f.closed) refl f.closes)
  where
    swept_progress : f.swept.progress ≡ f.closed.progress
    swept_progress = ap (λ (x : State). x.progress) f.others

    ends : (p : Progress) → f.closed.progress ≡ p → EndsOrWaits p f.swept t cycles
    ends p e = subst (λ (x : Progress). EndsOrWaits x f.swept t cycles) (swept_progress ∙ e) f.ends

    sweeps : (p : Progress) → f.closed.progress ≡ p → SweepsRest p f.closed.allocation f.swept.allocation
    sweeps p e = subst (λ (x : Progress). SweepsRest x f.closed.allocation f.swept.allocation) e f.sweeps

    after : (c : Cycle) (number : ℕ) → f.closed.progress ≡ sweeping c number → IsQuiet t
    after c number e =
        let none : NoneIs (IsIn stands.Sweeping) f.swept.allocation =
        all_swept (IsKeptIn c) f.closed.allocation f.swept.allocation (sweeps (sweeping c number) e) in
        elim (ends (sweeping c number) e) [
          | inl h ↦ record {
            is_idle = ap (λ (x : State). x.progress) h.1.rest;
            none = subst (λ (x : State). NoneIs (IsIn stands.Sweeping) x.allocation) (sym h.1.rest) none;
          }
          | inr h ↦ absurd (h.0 none)
        ]

    by : (p : Progress) → s.progress ≡ p → IsInCourse p s.number s.begun s.allocation → ClosesNow p s f.closed → IsQuiet t
    by idle e none closes =
        let at : f.closed.progress ≡ idle = ap (λ (x : State). x.progress) closes ∙ e in
        let known : EndsOrWaits idle f.swept t cycles = ends idle at in
        let same : f.swept.allocation ≡ s.allocation = sweeps idle at ∙ ap (λ (x : State). x.allocation) closes in
        record {
          is_idle = ap (λ (x : State). x.progress) known.0 ∙ swept_progress ∙ at;
          none = subst (λ (x : AllocState). NoneIs (IsIn stands.Sweeping) x) (sym (ap (λ (x : State). x.allocation) known.0 ∙ same)) none;
        }
    by (marking c) e held closes = after c s.number (ap (λ (x : State). x.progress) closes.rest)
    by (sweeping c number) e held closes = after c number (ap (λ (x : State). x.progress) closes ∙ e)

idle_none : (p : Progress) (number begun : ℕ) (a : AllocState) → is_idle p ≡ true → IsInCourse p number begun a → NoneIs (IsIn stands.Sweeping) a
idle_none idle number begun a e h = h
idle_none (marking c) number begun a e h = absurd (let bad : false ≡ true = e in cc)
idle_none (sweeping c closed) number begun a e h = absurd (let bad : false ≡ true = e in cc)

begins_course : (config : Config) (s t : State) → BeginsOrWaits config s t → IsStateInCourse s → IsStateInCourse t
begins_course config s t (inr b) h = subst IsStateInCourse (sym b.1) h
begins_course config s t (inl b) h = subst IsStateInCourse (sym b.1) (cycles_begin s (idle_none s.progress s.number s.begun s.allocation b.0.0 h))

full_course : (s t : State) (cycles : List CycleRow) → DoesFullCycle s t cycles → IsStateInCourse s → IsStateInCourse t
full_course s t cycles f h =
    let before : IsQuiet f.idled = finishes s f.idled f.before f.finishes h in
    let again : IsQuiet f.last =
    finishes (cycle_started (with_all_retired f.idled)) f.last f.own f.again
    (cycles_begin (with_all_retired f.idled) (none_retired f.idled.allocation before.none)) in
    subst IsStateInCourse (sym f.rest) (subst (λ (p : Progress). IsInCourse p f.last.number f.last.begun f.last.allocation) (sym again.is_idle) again.none)

proceeds_course : (plan : Plan) (s t : State) (cycles : List CycleRow) → Proceeds plan s t cycles → IsStateInCourse s → IsStateInCourse t
proceeds_course plan s t cycles (inl f) h = full_course s t cycles f.1 h
proceeds_course plan s t cycles (inr b) h = begins_course plan.config s t b.1 h

-- a stop, and the rounds with their stops

pub stop_course : (plan : Plan) (began : World) (s t : State) (row : StopRow) (cycles : List CycleRow) → IsStop plan began s t row cycles →
    IsStateInCourse s → IsStateInCourse t
stop_course plan began s t row cycles i h =
    let promoted = promotions_stay _ began s i.promoted i.count i.promotes h in
    let closed = closes_course plan.config.quota i.promoted.progress i.promoted i.closed promoted refl i.closes in
    let ended = ends_course i.closed.progress i.closed i.ended i.first closed refl i.ends in
    proceeds_course plan i.ended t i.more i.proceeds ended

turns_course : (plan : Plan) (s : State) (turns : List Turn) → AreTurns plan s turns → IsStateInCourse s → IsStateInCourse (state_after s turns)
turns_course plan s [] i h = h
turns_course plan s (turn ∷ turns) i h =
    let worked = rounds_stay plan.config s turn.worked turn.replies.replies turn.history i.0.round h in
    let stopped = stop_course plan s.world turn.worked turn.stop.state turn.stop.row turn.stop.cycles i.0.stop worked in
    turns_course plan turn.stop.state turns i.1 stopped

pub runs_are : RunsAreInCourse
runs_are plan run i =
    let first : IsStateInCourse (start plan) = λ number there is.
    let bad : stands.Free ≡ stands.Sweeping = sym (ap (λ (c : Cells). c.state) (first_cells plan.config.segments number)) ∙ is in cc in
    let opened = stop_course plan _ (start plan) run.opening.state run.opening.row run.opening.cycles i.opening first in
    turns_course plan run.opening.state run.turns i.turns opened
