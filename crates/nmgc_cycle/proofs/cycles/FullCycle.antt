-- A full cycle is the run's, and a stop goes on as the run does.
use Rattle.nmgc_cycle.proofs.Vocabulary.{ℕ, ◌≡◌, List, [], ◌++◌, length, Bool, false, refl, sym, ap, subst, ◌∙◌, inl, inr, arith, append-nil, append_assoc, IsSome, Segments, IsSegments, FIRST_PLACE, counts_stand, CycleRow, ClosesNow, has_left, Plan, State, Progress, idle, marking, sweeping, cycle_started, free_count, plan_of, Finishes, DoesFullCycle, EndsOrWaits, IsFullDue, Proceeds, is_short, with_all_retired, Script, Name, Collector, Marking, Doing, Sweeping, Begins, Ends, CanBegin, HasClosed, HasStarted, HasFinished, StandsAtStop, FinishingNowLeads, SweepingRestLeads, FinishLeads, FilingLeads, FullLeads, ProceedingLeads, words_in, report_cycles, FitsRun, StandsAt, StartingLeads, EndLeads, BeginReady, BeginningLeads, ◌≤◌}
use Rattle.nmgc_alloc.specs.Reserve as reserve
use Rattle.nmgc_segment.specs.declared.state.State.TheVariants as stands
use Rattle.nmgc_cycle.specs.declared.progress.Progress.TheVariants as doing
use Rattle.nmgc_cycle.specs.Full as full
use Rattle.nmgc_cycle.proofs.{stops.Reporting.stands_reported, stops.WholeStop.KeepsOn, stops.WholeStop.ending_keeps, stops.WholeStop.beginning_keeps}

-- The effect of a finish on the run

closing_now_keeps : (p : Progress) (s t : State) → ClosesNow p s t → KeepsOn s t
closing_now_keeps idle s t e = record { number = ap (λ (x : State). x.number) e; left = ap (λ (x : State). x.left) e }
closing_now_keeps (marking k) s t h = record { number = ap (λ (x : State). x.number) h.rest; left = ap (λ (x : State). x.left) h.rest }
closing_now_keeps (sweeping k since) s t e = record { number = ap (λ (x : State). x.number) e; left = ap (λ (x : State). x.left) e }

pub finishing_keeps : (s t : State) (rows : List CycleRow) → Finishes s t rows → KeepsOn s t
finishing_keeps s t rows f =
    let first = closing_now_keeps s.progress s f.closed f.closes in
    let last = (ending_keeps f.swept.progress f.swept t rows f.ends).0 in
    record {
      number = last.number ∙ ap (λ (x : State). x.number) f.others ∙ first.number;
      left = last.left ∙ ap (λ (x : State). x.left) f.others ∙ first.left;
    }

pub full_keeps : (s t : State) (rows : List CycleRow) → DoesFullCycle s t rows → KeepsOn s t
full_keeps s t rows d =
    let first = finishing_keeps s d.idled d.before d.finishes in
    let again = finishing_keeps (cycle_started (with_all_retired d.idled)) d.last d.own d.again in
    record {
      number = ap (λ (x : State). x.number) d.rest ∙ again.number ∙ first.number;
      left = ap (λ (x : State). x.left) d.rest ∙ again.left ∙ first.left;
    }

-- it doesn't depend on the requests
module _ (v : Bool) where
  abbrev asking : State → State
  asking x = record x { collect = v }

  closes_asking : (p : Progress) (s t : State) → ClosesNow p s t → ClosesNow p (asking s) (asking t)
  closes_asking idle s t e = ap asking e
  closes_asking (marking k) s t h = record { dead = h.dead; lists = h.lists; rest = ap asking h.rest }
  closes_asking (sweeping k since) s t e = ap asking e

  ends_asking : (p : Progress) (s t : State) (rows : List CycleRow) → EndsOrWaits p s t rows → EndsOrWaits p (asking s) (asking t) rows
  ends_asking idle s t rows h = (ap asking h.0, h.1)
  ends_asking (marking k) s t rows h = (ap asking h.0, h.1)
  ends_asking (sweeping k since) s t rows (inl h) = inl (h.0, record { row = h.1.row; census = h.1.census; cycles_are = h.1.cycles_are; rest = ap asking h.1.rest })
  ends_asking (sweeping k since) s t rows (inr h) = inr (h.0, ap asking h.1, h.2)

  finishes_asking : (s t : State) (rows : List CycleRow) → Finishes s t rows → Finishes (asking s) (asking t) rows
  finishes_asking s t rows f = record {
    closed = asking f.closed;
    closes = closes_asking s.progress s f.closed f.closes;
    swept = asking f.swept;
    sweeps = f.sweeps;
    others = ap asking f.others;
    ends = ends_asking f.swept.progress f.swept t rows f.ends;
  }

-- The effect of a finish on the collector: no cycle is in progress then

no_marking : (stop : ℕ) (p : Doing) (old new : Collector) → old.cycle.progress ≡ p → full.ClosesNow stop p old new → (m : Marking) →
    new.cycle.progress ≡ doing.Marking m → ⊥
no_marking stop doing.Idle old new at h m is = let bad : doing.Idle ≡ doing.Marking m = sym at ∙ sym (ap (λ (x : Collector). x.cycle.progress) h) ∙ is in cc
no_marking stop (doing.Marking n) old new at h m is = let bad : doing.Sweeping h.0 ≡ doing.Marking m = sym h.1 ∙ is in cc
no_marking stop (doing.Sweeping w) old new at h m is =
    let bad : doing.Sweeping w ≡ doing.Marking m = sym at ∙ sym (ap (λ (x : Collector). x.cycle.progress) h) ∙ is in cc

still_no_marking : (a b : Segments) (names : List Name) (p after : Doing) → full.SweepsRest a b names p after →
    ((m : Marking) → p ≡ doing.Marking m → ⊥) → (m : Marking) → after ≡ doing.Marking m → ⊥
still_no_marking a b names doing.Idle after h never m is = let bad : doing.Idle ≡ doing.Marking m = sym h.0 ∙ is in cc
still_no_marking a b names (doing.Marking n) after h never m is = never n refl
still_no_marking a b names (doing.Sweeping w) after h never m is = let bad : doing.Sweeping h.0 ≡ doing.Marking m = sym h.1 ∙ is in cc

left_of : Doing → List ℕ
left_of doing.Idle = []
left_of (doing.Marking m) = []
left_of (doing.Sweeping w) = w.sweeper.left

none_left : (a b : Segments) (names : List Name) (p after : Doing) → full.SweepsRest a b names p after → (w : Sweeping) → after ≡ doing.Sweeping w →
    w.sweeper.left ≡ []
unfolding left_of
none_left a b names doing.Idle after h w is = absurd (let bad : doing.Idle ≡ doing.Sweeping w = sym h.0 ∙ is in cc)
none_left a b names (doing.Marking n) after h w is = absurd (let bad : doing.Marking n ≡ doing.Sweeping w = sym h.0 ∙ is in cc)
none_left a b names (doing.Sweeping v) after h w is = ap left_of (sym is ∙ h.1) ∙ h.2.none

ended_idle : (stop : ℕ) (p : Doing) (old new : Collector) → old.cycle.progress ≡ p → Ends stop p old new → ((m : Marking) → p ≡ doing.Marking m → ⊥) →
    ((w : Sweeping) → p ≡ doing.Sweeping w → w.sweeper.left ≡ []) → new.cycle.progress ≡ doing.Idle
ended_idle stop doing.Idle old new is h never none = ap (λ (x : Collector). x.cycle.progress) h ∙ is
ended_idle stop (doing.Marking m) old new is h never none = absurd (never m refl)
ended_idle stop (doing.Sweeping w) old new is (inl h) never none = ap (λ (x : Collector). x.cycle.progress) h.1
ended_idle stop (doing.Sweeping w) old new is (inr h) never none = absurd (h.0 (none w refl))

pub finished_idle : (stop : ℕ) (old new : Collector) → HasFinished stop old new → new.cycle.progress ≡ doing.Idle
finished_idle stop old new f =
    let never = still_no_marking f.closed.heap.segments f.swept.heap.segments f.closed.heap.names f.closed.cycle.progress f.swept.cycle.progress f.sweeps.sweeps
    (no_marking stop old.cycle.progress old f.closed refl f.closes.closes) in
    ended_idle stop f.swept.cycle.progress f.swept new refl f.ends never
    (none_left f.closed.heap.segments f.swept.heap.segments f.closed.heap.names f.closed.cycle.progress f.swept.cycle.progress f.sweeps.sweeps)

pub finish_leads : FinishingNowLeads → SweepingRestLeads → EndLeads → FinishLeads
finish_leads closing sweeping_rest ending script old new s limits h f =
    let first = closing script old f.closed s limits h f.closes in
    let rest = sweeping_rest script f.closed f.swept first.0 limits first.2 f.sweeps in
    let swept : State = record first.0 { allocation = rest.0 } in
    let number : first.0.number ≡ s.number = (closing_now_keeps s.progress s first.0 first.1).number in
    let last = ending script f.swept new swept limits rest.2 (subst (λ (n : ℕ). Ends n f.swept.cycle.progress f.swept new) (sym number) f.ends) in
    let before : report_cycles f.swept ≡ report_cycles old = ap report_cycles f.sweeps.rest ∙ ap report_cycles f.closes.rest in (
      last.0,
      last.1,
      record { closed = first.0; closes = first.1; swept = swept; sweeps = rest.1; others = refl; ends = last.2 },
      last.3 ∙ ap (λ (rows : List CycleRow). rows ++ last.1) before,
      last.4,
      finished_idle s.number old new f,
      first.3,
    )

-- The whole full cycle

started_cycles : (stop : ℕ) (old new : Collector) → HasStarted stop old new → report_cycles new ≡ report_cycles old
started_cycles stop old new h = ap report_cycles h.is ∙ ap report_cycles h.starts.rest

begun_cycles : (trigger stop : ℕ) (old new : Collector) → Begins trigger stop old new → report_cycles new ≡ report_cycles old
begun_cycles trigger stop old new (inl h) = started_cycles stop old new h.1
begun_cycles trigger stop old new (inr h) = ap report_cycles h.1

pub full_leads : FinishLeads → FilingLeads → StartingLeads → FullLeads
full_leads finish filing starting script old new s limits h d =
    let first = finish script old d.idled s limits h d.first in
    let idled : State = first.0 in
    let number : idled.number ≡ s.number = (finishing_keeps s idled first.1 first.2).number in
    let filed : StandsAt script (full.with_all_retired d.idled) (with_all_retired idled) = filing script d.idled idled limits first.4 first.5 d.sound in
    let started = starting script (full.with_all_retired d.idled) d.started (with_all_retired idled) limits filed first.5 (rw number d.starts) in
    let again = finish script d.started d.last (record (cycle_started (with_all_retired idled)) {
      collect =
          false;
    }) limits started (subst (λ (n : ℕ). HasFinished n d.started d.last) (sym number) d.again) in
    let last : State = record again.0 { collect = idled.collect } in
    let own : Finishes (cycle_started (with_all_retired idled)) last again.1 =
    finishes_asking idled.collect (record (cycle_started (with_all_retired idled)) { collect = false }) again.0 again.1 again.2 in
    let cycles : report_cycles new ≡ report_cycles old ++ (first.1 ++ again.1) =
    cc (d.is, again.3, started_cycles s.number (full.with_all_retired d.idled) d.started d.starts, first.3, append_assoc (report_cycles old) first.1 again.1) in (
      record again.0 { collect = false; full = false },
      first.1 ++ again.1,
      record {
        idled = idled;
        before = first.1;
        finishes = first.2;
        last = last;
        own = again.1;
        again = own;
        cycles_are = refl {a = first.1 ++ again.1};
        rest = refl {a = record again.0 { collect = false; full = false }};
      },
      cycles,
      rw d.is (stands_reported script d.last (record d.last { cycle = record d.last.cycle { collect = false; full = false } }) again.0 (record again.0 {
        collect = false;
        full = false;
      }) refl (refl {a = record again.0 { collect = false; full = false }}) refl refl again.4),
      first.6,
    )

-- A full cycle that is due

module _ (script : Script) (c : Collector) (s : State) (left : Bool) (h : StandsAt script c s) (left_is : left ≡ has_left s.left) where
  short_same : full.is_short_of left c ≡ is_short (plan_of script) s
  short_same =
      let free : reserve.free_count c.heap.segments.segments ≡ free_count s =
      counts_stand c.heap.segments (words_in c.heap.words) s.allocation stands.Free h.heap.holds.stands in
      cc (left_is, free, h.kept.layout)

  pub full_due : full.IsFullDue left c → IsFullDue (plan_of script) s
  full_due (inl asked) = inl (sym h.matches.full ∙ asked)
  full_due (inr short) = inr (sym short_same ∙ short)

  full_due_back : IsFullDue (plan_of script) s → full.IsFullDue left c
  full_due_back (inl asked) = inl (h.matches.full ∙ asked)
  full_due_back (inr short) = inr (short_same ∙ short)

pub proceeding_leads : FullLeads → BeginningLeads → ProceedingLeads
proceeding_leads whole beginning script old new s left limits h left_is (inl x) =
    let there = whole script old new s limits h x.1 in
    (there.0, there.1, inl (full_due script old s left h left_is x.0, there.2, there.5), there.3, there.4)
proceeding_leads whole beginning script old new s left limits h left_is (inr x) =
    let there = beginning script old new s limits h x.1 in (
      there.0,
      [],
      inr ((λ due. x.0 (full_due_back script old s left h left_is due)), there.1, refl),
      begun_cycles script.config.trigger s.number old new x.1 ∙ sym (append-nil (report_cycles old)),
      there.2,
    )

-- the number of the stop and the commands left stay, however it goes on
pub proceeding_keeps : (plan : Plan) (s t : State) (rows : List CycleRow) → Proceeds plan s t rows → KeepsOn s t
proceeding_keeps plan s t rows (inl x) = full_keeps s t rows x.1
proceeding_keeps plan s t rows (inr x) = beginning_keeps plan.config s t x.1

-- The requirements of the calls of a full cycle

-- a finish begins no cycle
pub finished_begun : (stop : ℕ) (old new : Collector) → HasFinished stop old new → new.cycle.begun ≡ old.cycle.begun
finished_begun stop old new f = ends_begun stop f.swept.cycle.progress f.swept new f.ends ∙ ap (λ (x : Collector). x.cycle.begun) f.sweeps.rest ∙
    ap (λ (x : Collector). x.cycle.begun) f.closes.rest
  where
    ends_begun : (stop : ℕ) (p : Doing) (a b : Collector) → Ends stop p a b → b.cycle.begun ≡ a.cycle.begun
    ends_begun stop doing.Idle a b h = ap (λ (x : Collector). x.cycle.begun) h
    ends_begun stop (doing.Marking m) a b h = ap (λ (x : Collector). x.cycle.begun) h
    ends_begun stop (doing.Sweeping w) a b (inl h) = ap (λ (x : Collector). x.cycle.begun) h.1
    ends_begun stop (doing.Sweeping w) a b (inr h) = ap (λ (x : Collector). x.cycle.begun) h.1

-- after the cycle in progress was closed, the collector represents a state at the same stop
pub closed_at : FinishingNowLeads → (stop : ℕ) (old new : Collector) → StandsAtStop stop old → HasClosed full.ClosesNow stop old new →
    (script : Script) × (t : State) × FitsRun script × StandsAt script new t
closed_at closing stop old new (script, s, limits, number, h) closed =
    let led = closing script old new s limits h (subst (λ (n : ℕ). HasClosed full.ClosesNow n old new) (sym number) closed) in
    (script, led.0, limits, led.2)

-- after it was finished, no cycle is in progress there
pub finished_at : FinishLeads → (stop : ℕ) (old new : Collector) → StandsAtStop stop old → HasFinished stop old new → StandsAtStop stop new ×
    (new.cycle.progress ≡ doing.Idle) × (new.cycle.begun ≡ old.cycle.begun)
finished_at finish stop old new (script, s, limits, number, h) f =
    let led = finish script old new s limits h (subst (λ (n : ℕ). HasFinished n old new) (sym number) f) in
    ((script, led.0, limits, (finishing_keeps s led.0 led.1 led.2).number ∙ number, led.4), led.5, finished_begun stop old new f)

-- also with all segments filed
pub filed_at : FilingLeads → (stop : ℕ) (c : Collector) → StandsAtStop stop c → c.cycle.progress ≡ doing.Idle →
    IsSegments (full.with_all_retired c).heap.segments → StandsAtStop stop (full.with_all_retired c)
filed_at filing stop c (script, s, limits, number, h) none sound = (script, with_all_retired s, limits, number, filing script c s limits h none sound)

-- and after the next cycle began
pub started_at : StartingLeads → (stop : ℕ) (old new : Collector) → StandsAtStop stop old → old.cycle.progress ≡ doing.Idle → HasStarted stop old new →
    StandsAtStop stop new
started_at starting stop old new (script, s, limits, number, h) none started = (
  script,
  record (cycle_started s) { collect = false },
  limits,
  number,
  starting script old new s limits h none (subst (λ (n : ℕ). HasStarted n old new) (sym number) started),
)

-- the requirements of a beginning
pub record BeginsAt (c : Collector) : Type 0 where
  pub words : IsSome c.heap.words
  pub inside : FIRST_PLACE ≤ length (words_in c.heap.words)
  pub can : c.cycle.progress ≡ doing.Idle → CanBegin c

pub begins_at : BeginReady → (stop : ℕ) (c : Collector) → StandsAtStop stop c → BeginsAt c
begins_at ready stop c (script, s, limits, number, h) = record {
  words = h.kept.has_words;
  inside = (let total = h.heap.holds.represents.total in omega (arith, total));
  can = λ none. ready script c s limits h none;
}

-- the finished and filed collector, and the requirements of a beginning
pub record IsFiledAt (stop : ℕ) (old idled filed : Collector) : Type 0 where
  pub is : filed ≡ full.with_all_retired idled
  pub sound : IsSegments (full.with_all_retired idled).heap.segments
  pub stands : StandsAtStop stop filed
  pub none : filed.cycle.progress ≡ doing.Idle
  pub begun : filed.cycle.begun ≡ old.cycle.begun
  pub begins : BeginsAt filed

pub is_filed_at : FinishLeads → FilingLeads → BeginReady → (stop : ℕ) (old idled : Collector) (segments : Segments) → StandsAtStop stop old →
    HasFinished stop old idled → segments ≡ (full.with_all_retired idled).heap.segments → IsSegments segments →
    IsFiledAt stop old idled (record idled { heap = record idled.heap { segments = segments } })
is_filed_at finish filing ready stop old idled segments h f is sound =
    let at = finished_at finish stop old idled h f in
    let filed_is : record idled { heap = record idled.heap { segments = segments } } ≡ full.with_all_retired idled =
    ap (λ (g : Segments). record idled { heap = record idled.heap { segments = g } }) is in
    let sound_there : IsSegments (full.with_all_retired idled).heap.segments = subst IsSegments is sound in
    let stands : StandsAtStop stop (record idled { heap = record idled.heap { segments = segments } }) =
    subst (λ (x : Collector). StandsAtStop stop x) (sym filed_is) (filed_at filing stop idled at.0 at.1 sound_there) in
    record {
      is = filed_is;
      sound = sound_there;
      stands = stands;
      none = at.1;
      begun = at.2;
      begins = begins_at ready stop (record idled { heap = record idled.heap { segments = segments } }) stands;
    }
