-- All waiting segments are swept at a stop: freed names lose their addresses, and the collector represents the rest.
use Rattle.nmgc_cycle.proofs.Vocabulary.{ℕ, ◌≡◌, ◌≢◌, List, [], length, refl, sym, ap, subst, ◌∙◌, inl, inr, Some, Contains, IsSome, Weak, Name, IsAliveWeak, shared_name, World, IsWorld, node_of, Layout, AllocState, HasBlock, SweepsSome, Segments, DropsFreed, FreesUntracked, StopFreesUntracked, SweptHoldsAtStop, Place, IsTracked, tracked_wide, wide_tracked, IsFor, IsKeptIn, Cycle, AreNurseries, HoldsAtStop, AreSettled, CollectorSeen, ends_of, nurseries_of, IsOfSnapshot, IsSoundState, State, Progress, idle, marking, sweeping, phase_of, plan_of, layout_of, waiting_count, SweepsRest, each_filed, each_waits, each_lie, sweeps_keep, Script, LeftIsCounted, AreLeft, IsAtWork, HaveEntries, named_swept, Collector, Doing, Sweeping, CanSweepRest, HasSweptAll, SweepsRestBy, SweepingRestLeads, SweepRestReady, IsWellFormed, Sweeps, died, seen, words_in, sweeper_in, cycle_in, phase_in, StandsAt, no_weak}
use Rattle.nmgc_world_spec.specs.Reach.{start}
use Rattle.nmgc_journal.specs.declared.report.Phase.TheVariants as phase
use Rattle.nmgc_cycle.specs.declared.progress.Progress.TheVariants as doing

-- the laws that a sweep at a stop uses
pub record SweepingLaws : Type 0 where
  pub counted : LeftIsCounted
  pub frees : StopFreesUntracked
  pub holds : SweptHoldsAtStop

-- an alive weak pointer is tracked
alive_tracked : (w : World) (earlier : List World) (weak : Name) → IsAliveWeak w weak → IsTracked w earlier weak
alive_tracked w earlier weak alive = wide_tracked w earlier weak (start weak (inr (weak, alive.0, alive.1, inl refl)))

alive_other : (w : World) → IsWorld w → (weak : Name) → IsAliveWeak w weak → weak ≢ shared_name
alive_other w world weak alive is =
    let at : Some w.shared ≡ Some (Weak (Some alive.0)) = subst (λ (n : Name). node_of w n ≡ Some (Weak (Some alive.0))) is alive.1 in
    let node : w.shared ≡ Weak (Some alive.0) = cc in
    no_weak w.shared (Some alive.0) world.shared node

-- with fewer addresses no more are in nurseries
pub fewer_nurseries : (layout : Layout) (s : State) (earlier : List World) (places fewer : List Place) (seen : CollectorSeen) →
    DropsFreed layout earlier s.world places fewer → AreNurseries layout places s.world (nurseries_of seen) →
    AreNurseries layout fewer s.world (nurseries_of seen)
fewer_nurseries layout s earlier places fewer seen drops h = record {
  used = record {
    count = h.used.count;
    places_are = h.used.places_are;
    tops = h.used.tops;
    used = λ p node there high e. h.used.used p node (drops.old p there) high e;
  };
  ends = h.ends;
}

module _ (laws : SweepingLaws) (script : Script) (c : Collector) (st : State) (k : Cycle) (since : ℕ) (w v : Sweeping)
    (h : StandsAt script (record c { cycle = record c.cycle { progress = doing.Sweeping w } }) (record st { progress = sweeping k since }))
    (new : Segments) (sw : HasSweptAll c.heap.segments new c.heap.names w v) where
  abbrev old : Collector
  old = record c { cycle = record c.cycle { progress = doing.Sweeping w } }

  abbrev s : State
  s = record st { progress = sweeping k since }

  abbrev layout : Layout
  layout = layout_of (plan_of script)

  abbrev words : List ℕ
  words = words_in c.heap.words

  -- the sweeper swept all segments left

  pub swept : (b : AllocState) × SweepsSome (IsKeptIn k) (length w.sweeper.left) st.allocation b ×
      IsAtWork k since words b new (cycle_in (doing.Sweeping w) (died c.heap.weaks.deaths)) v.sweeper
  swept = sw.swept.sweeps k since words st.allocation (cycle_in (doing.Sweeping w) (died c.heap.weaks.deaths)) (rw h.kept.layout h.named) h.sweeper.1

  abbrev pub b : AllocState
  b = swept.0

  abbrev t : State
  t = record st { progress = sweeping k since; allocation = b }

  abbrev next : Collector
  next = record c { heap = record c.heap { segments = new }; cycle = record c.cycle { progress = doing.Sweeping (record w { sweeper = v.sweeper }) } }

  rest : SweepsSome (IsKeptIn k) (waiting_count st.allocation) st.allocation b
  rest = rw (laws.counted words st.allocation c.heap.segments w.sweeper h.heap.holds.stands h.sweeper.0) swept.1

  frees : FreesUntracked [] st.world st.world st.allocation b
  frees = laws.frees layout k st.world st.allocation b (waiting_count st.allocation) h.sound.sound_blocks h.sound.known h.sound.cycle.0
      h.sound.cycle.1 h.sound.blocks rest

  layout_is : new.layout ≡ layout
  layout_is = sw.swept.layout ∙ h.kept.layout

  -- weak pointers of the list are alive, and so they have their blocks still
  listed_stay : (p : Place) → Contains (seen old).weaks p → HasBlock b p.name
  listed_stay p there =
      let alive = (h.heap.listed.sound p there).1 in
      frees.tracked p.name (alive_tracked st.world [] p.name alive) (alive_other st.world h.sound.world p.name alive) (subst IsSome (sym alive.1) refl)

  heap : (g : HoldsAtStop layout t words new (ends_of (seen next)) (seen next).weaks) × DropsFreed layout [] st.world h.heap.places g.places
  heap = laws.holds layout s b words c.heap.segments new (ends_of (seen old)) (seen old).weaks h.heap h.kept.sound frees swept.2.stands layout_is listed_stay

  sound_then : IsSoundState (plan_of script) t
  sound_then = record {
    world = h.sound.world;
    able = record { programs = h.sound.able.programs; mutators = h.sound.able.mutators; registers = h.sound.able.registers; serials = h.sound.able.serials };
    sound_blocks = each_filed layout (IsKeptIn k) st.allocation b rest.numbers rest.sweeps h.sound.sound_blocks;
    known = each_lie (IsKeptIn k) (λ n. IsSome (node_of st.world n)) st.allocation b rest.numbers rest.sweeps h.sound.known;
    cycle = (h.sound.cycle.0, each_waits (IsKeptIn k) (IsOfSnapshot k) st.allocation b rest.numbers rest.sweeps h.sound.cycle.1);
    earlier = h.sound.earlier;
    blocks = λ n tracked other.
        sweeps_keep k st.world st.allocation b (waiting_count st.allocation) rest h.sound.cycle.0 h.sound.cycle.1 n
        (tracked_wide st.world n tracked) (h.sound.blocks n tracked other);
  }

  still_kept : IsWellFormed script next
  still_kept = record {
    layout = layout_is;
    sound = sw.sound;
    lists = subst (λ (l : Layout). IsFor l c.heap.promotion) (sym sw.swept.layout) h.kept.lists;
    entries = subst (λ (l : Layout). HaveEntries l c.heap.names) (sym sw.swept.layout) h.kept.entries;
    has_words = h.kept.has_words;
    count = h.kept.count;
    own = λ n x e. let own = h.kept.own n x e in record {
      number = own.number;
      layout = own.layout ∙ sym sw.swept.layout;
      whole = own.whole;
      no_replies = own.no_replies;
      line = own.line;
    };
    inbox = h.kept.inbox;
    positions_are = h.kept.positions_are;
    positions = h.kept.positions;
    no_ends = h.kept.no_ends;
    room = h.kept.room;
    workers = h.kept.workers;
  }

  pub stands_then : StandsAt script next t
  stands_then = record {
    kept = still_kept;
    sound = sound_then;
    course = (h.course.0, swept.2.sweeping.as_noted);
    matches = record { phase = refl; begun = h.matches.begun; collect = h.matches.collect; full = h.matches.full };
    heap = heap.0;
    nurseries = fewer_nurseries layout s [] h.heap.places heap.0.places (seen old) heap.1 h.nurseries;
    empty = h.empty;
    rest = h.rest;
    cycle = (swept.2.sweeping, subst (λ (n : ℕ). AreSettled n new) h.course.0.number_is swept.2.settled);
    sweeper = (record { numbers = sw.swept.left.numbers; room = sw.swept.left.room }, swept.2);
    named = named_swept layout c.heap.names (IsKeptIn k) (length w.sweeper.left) st.allocation b swept.1 h.named;
  }

  pub sweeps_rest : SweepsRest (sweeping k since) st.allocation b
  sweeps_rest = rest

module _ (laws : SweepingLaws) (script : Script) (old new : Collector) (s : State) (h : StandsAt script old s) (segments_are : new ≡
    record old { heap = record old.heap { segments = new.heap.segments }; cycle = record old.cycle { progress = new.cycle.progress } }) where
  abbrev Leads : Type 0
  Leads = (b : AllocState) × SweepsRest s.progress s.allocation b × StandsAt script new (record s { allocation = b })

  stays : (p : Doing) (q : Progress) → old.cycle.progress ≡ p → s.progress ≡ q → SweepsRest q s.allocation s.allocation → new.cycle.progress ≡ p →
      new.heap.segments ≡ old.heap.segments → Leads
  stays p q at is swept_by after same_segments =
      let same : new ≡ old = segments_are ∙ ap (λ (g : Segments). record old {
        heap = record old.heap { segments = g };
        cycle = record old.cycle { progress = new.cycle.progress };
      }) same_segments ∙
      ap (λ (x : Doing). record old { cycle = record old.cycle { progress = x } }) (after ∙ sym at) in (
        s.allocation,
        subst (λ (x : Progress). SweepsRest x s.allocation s.allocation) (sym is) swept_by,
        subst (λ (x : Collector). StandsAt script x s) (sym same) h,
      )

  by_case : (p : Doing) (q : Progress) → old.cycle.progress ≡ p → s.progress ≡ q → phase_in p ≡ phase_of q →
      SweepsRestBy old.heap.segments new.heap.segments old.heap.names p new.cycle.progress → Leads
  by_case doing.Idle idle at is e step = stays doing.Idle idle at is refl step.0 step.1
  by_case doing.Idle (marking k) at is e step = absurd (let bad : phase.Idle ≡ phase.Marking = e in cc)
  by_case doing.Idle (sweeping k since) at is e step = absurd (let bad : phase.Idle ≡ phase.Sweeping = e in cc)
  by_case (doing.Marking m) idle at is e step = absurd (let bad : phase.Marking ≡ phase.Idle = e in cc)
  by_case (doing.Marking m) (marking k) at is e step = stays (doing.Marking m) (marking k) at is refl step.0 step.1
  by_case (doing.Marking m) (sweeping k since) at is e step = absurd (let bad : phase.Marking ≡ phase.Sweeping = e in cc)
  by_case (doing.Sweeping w) idle at is e step = absurd (let bad : phase.Sweeping ≡ phase.Idle = e in cc)
  by_case (doing.Sweeping w) (marking k) at is e step = absurd (let bad : phase.Sweeping ≡ phase.Marking = e in cc)
  by_case (doing.Sweeping w) (sweeping k since) at is e step =
      let v : Sweeping = step.0 in
      let was : old ≡ record old { cycle = record old.cycle { progress = doing.Sweeping w } } =
      ap (λ (p : Doing). record old { cycle = record old.cycle { progress = p } }) at in
      let state : s ≡ record s { progress = sweeping k since } = ap (λ (q : Progress). record s { progress = q }) is in
      let stood : StandsAt script (record old { cycle = record old.cycle { progress = doing.Sweeping w } }) (record s { progress = sweeping k since }) =
      subst (λ (x : Collector). StandsAt script x (record s { progress = sweeping k since })) was (subst (λ (y : State).
      StandsAt script old y) state h) in
      let there = stands_then laws script old s k since w v stood new.heap.segments step.2 in
      let a : AllocState = b laws script old s k since w v stood new.heap.segments step.2 in
      let next : new ≡ record old {
        heap = record old.heap { segments = new.heap.segments };
        cycle = record old.cycle { progress = doing.Sweeping (record w { sweeper = v.sweeper }) };
      } = segments_are ∙
      ap (λ (p : Doing). record old { heap = record old.heap { segments = new.heap.segments }; cycle = record old.cycle { progress = p } })
      (step.1 ∙ ap doing.Sweeping step.2.rest) in (
        a,
        subst (λ (q : Progress). SweepsRest q s.allocation a) (sym is) (sweeps_rest laws script old s k since w v stood new.heap.segments step.2),
        subst (λ (q : Progress). StandsAt script new (record s { progress = q; allocation = a })) (sym is) (subst (λ (x : Collector).
            StandsAt script x (record s { progress = sweeping k since; allocation = a })) (sym next) there),
      )

pub sweeping_rest_leads : SweepingLaws → SweepingRestLeads
sweeping_rest_leads laws script old new s limits h swept =
    by_case laws script old new s h swept.rest old.cycle.progress s.progress refl refl h.matches.phase swept.sweeps

-- a sweeper at a stop has all waiting segments left
ready_by : (script : Script) (c : Collector) (s : State) → StandsAt script c s → (p : Doing) (q : Progress) → c.cycle.progress ≡ p → s.progress ≡ q →
    phase_in p ≡ phase_of q → CanSweepRest c.heap.segments c.heap.names p
ready_by script c s h doing.Idle q at is e = tt
ready_by script c s h (doing.Marking m) q at is e = tt
ready_by script c s h (doing.Sweeping w) idle at is e = absurd (let bad : phase.Sweeping ≡ phase.Idle = e in cc)
ready_by script c s h (doing.Sweeping w) (marking k) at is e = absurd (let bad : phase.Sweeping ≡ phase.Marking = e in cc)
ready_by script c s h (doing.Sweeping w) (sweeping k since) at is e =
    let held : Sweeps (sweeping k since) s c = subst (λ (q : Progress). Sweeps q s c) is h.sweeper in
    (subst (λ (p : Doing). AreLeft c.heap.segments (sweeper_in p)) at held.0, h.kept.entries)

pub sweep_rest_ready : SweepRestReady
sweep_rest_ready script c s h = ready_by script c s h c.cycle.progress s.progress refl refl h.matches.phase
