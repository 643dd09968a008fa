-- The end of a cycle at a stop: its row has its census, and the collector represents the state without a cycle in progress.
use Rattle.nmgc_cycle.proofs.Vocabulary.{ℕ, ◌≡◌, List, [], ◌∷◌, ◌++◌, refl, sym, ap, subst, arith, ◌∙◌, inl, inr, append-nil, Contains, contains_head, World, Segments, Sweeper, AreLeft, HasNone, none_to_sweep, Represents, NoNode, IsTracked, CycleRow, IsCensus, EndsOrWaits, IsSwept, HoldsInCycle, IsPacedAtStop, IsInCourse, HoldsAtStop, snapshots, ends_of, IsSoundState, State, Plan, Progress, idle, marking, sweeping, phase_of, plan_of, layout_of, Cycle, Script, EndShowsCensus, ShowsCensus, IsAtWork, map-append, Collector, Doing, Sweeping, row_of, Ends, Sweeps, seen, cycle_in, phase_in, died, report_row, report_cycles, StandsAt, EndLeads, nothing_in}
use Rattle.nmgc_alloc.specs.declared.search.Category.TheVariants as sought
use Rattle.nmgc_journal.specs.declared.report.Phase.TheVariants as phase
use Rattle.nmgc_cycle.specs.declared.progress.Progress.TheVariants as doing
use Rattle.nmgc_cycle.proofs.{cycles.StepReady.none_back, lengths.StopFew.waits_in, stops.Reporting.kept_reported}

-- no segment is left exactly if none waits

none_waits : (segments : Segments) (sweeper : Sweeper) → AreLeft segments sweeper → sweeper.left ≡ [] → HasNone sought.Sweeping segments
none_waits segments sweeper h none i lt waits =
    let there : Contains [] i = subst (λ (l : List ℕ). Contains l i) none (h.numbers.complete i waits) in
    omega (arith, there.1)

nothing_left : (left : List ℕ) → ((n : ℕ) → Contains left n → ⊥) → left ≡ []
nothing_left [] none = refl
nothing_left (n ∷ left) none = absurd (none n (contains_head n left))

none_left : (segments : Segments) (sweeper : Sweeper) → AreLeft segments sweeper → HasNone sought.Sweeping segments → sweeper.left ≡ []
none_left segments sweeper h none =
    nothing_left sweeper.left (λ n there. let waits = h.numbers.sound n there in none n (waits_in segments n waits) waits)

-- the collector after the end of the cycle, and its state
abbrev pub ended : Collector → ℕ → ℕ → CycleRow → Collector
ended c turns upper row = record c {
  cycle = record c.cycle { progress = doing.Idle; turns = turns; upper_turns = upper };
  rows = record c.rows { cycles = c.rows.cycles ++ row ∷ [] };
}

abbrev pub idled : State → State
idled s = record s { progress = idle }

module _ (script : Script) (c : Collector) (s : State) (h : StandsAt script c s) (w : Sweeping) (at : c.cycle.progress ≡
    doing.Sweeping w) (k : Cycle) (closed : ℕ) (is : s.progress ≡ sweeping k closed) where
  abbrev plan : Plan
  plan = plan_of script

  none : snapshots s.progress ≡ []
  none = ap snapshots is

  sound : IsSoundState plan (idled s)
  sound = record {
    world = h.sound.world;
    able = record { programs = h.sound.able.programs; mutators = h.sound.able.mutators; registers = h.sound.able.registers; serials = h.sound.able.serials };
    sound_blocks = h.sound.sound_blocks;
    known = h.sound.known;
    cycle = tt;
    earlier = λ e there. absurd (nothing_in e there);
    blocks = λ name tracked other. h.sound.blocks name (subst (λ (l : List World). IsTracked s.world l name) (sym none) tracked) other;
  }

  heap : HoldsAtStop (layout_of plan) (idled s) (seen c).words c.heap.segments (ends_of (seen c)) (seen c).weaks
  heap = record {
    places = h.heap.places;
    all = h.heap.all;
    holds = record {
      fit = h.heap.holds.fit;
      represents = subst (λ (l : List World). Represents (layout_of plan) l NoNode h.heap.places s.world (seen c).words) none h.heap.holds.represents;
      registers = h.heap.holds.registers;
      roots = h.heap.holds.roots;
      layout_is = h.heap.holds.layout_is;
      stands = h.heap.holds.stands;
    };
    listed = h.heap.listed;
  }

  swept_by : Sweeps (sweeping k closed) s c
  swept_by = subst (λ (q : Progress). Sweeps q s c) is h.sweeper

  left : AreLeft c.heap.segments w.sweeper
  left = rw at at swept_by.0

  work : IsAtWork k closed (seen c).words s.allocation c.heap.segments (cycle_in (doing.Sweeping w) (died c.heap.weaks.deaths)) w.sweeper
  work = rw at at swept_by.1

  course : IsInCourse (sweeping k closed) s.number s.begun s.allocation
  course = subst (λ (q : Progress). IsInCourse q s.number s.begun s.allocation) is h.course

  abbrev pub row : CycleRow
  row = row_of c.cycle.begun s.number w (died c.heap.weaks.deaths)

  census : EndShowsCensus → IsSwept s → IsCensus k closed s.number (report_row row)
  census law swept =
      let reported : ShowsCensus k w.sweeper =
      law k closed (seen c).words s.allocation c.heap.segments (cycle_in (doing.Sweeping w) (died c.heap.weaks.deaths)) w.sweeper work swept in
      record {
        number = h.matches.begun ∙ sym course.0.number_is;
        from = work.sweeping.from_is;
        closed_at = work.sweeping.closed_is;
        ended_at = refl;
        swept = reported.swept;
        had = reported.had;
        freed = reported.freed;
        dead = work.sweeping.dead;
        kept = work.sweeping.kept;
      }

  stands_then : (turns upper : ℕ) → IsSwept s → StandsAt script (ended c turns upper row) (idled s)
  unfolding heap
  stands_then turns upper swept = record {
    kept = kept_reported script c (ended c turns upper row) refl h.kept;
    sound = sound;
    course = swept;
    matches = record { phase = refl; begun = h.matches.begun; collect = h.matches.collect; full = h.matches.full };
    heap = heap;
    nurseries = h.nurseries;
    empty = h.empty;
    rest = h.rest;
    cycle = (subst (λ (q : Progress). HoldsInCycle (λ (r : Cycle). IsPacedAtStop script.config.quota r s (seen c)) q s (seen c) h.heap.places) is h.cycle).1;
    sweeper = tt;
    named = h.named;
  }

  -- if no segment waits, none is left
  pub left_none : IsSwept s → w.sweeper.left ≡ []
  left_none swept = none_left c.heap.segments w.sweeper left (none_back c.heap.segments (seen c).words s.allocation h.heap.holds.stands swept)

  -- the cycle ended
  pub ends_now : EndShowsCensus → (new : Collector) → w.sweeper.left ≡ [] → new ≡ ended c w.sweeper.turns w.sweeper.upper_turns row →
      (t : State) × (rows : List CycleRow) × EndsOrWaits s.progress s t rows × (report_cycles new ≡ report_cycles c ++ rows) × StandsAt script new t
  ends_now law new none new_is =
      let waits = none_waits c.heap.segments w.sweeper left none in
      let swept : IsSwept s = none_to_sweep c.heap.segments (seen c).words s.allocation h.heap.holds.stands waits in (
        idled s,
        report_row row ∷ [],
        rw is (inl (
          swept,
          record { row = report_row row; census = census law swept; cycles_are = refl; rest = refl },
        )),
        ap report_cycles new_is ∙ map-append report_row c.rows.cycles (row ∷ []),
        subst (λ (x : Collector). StandsAt script x (idled s)) (sym new_is) (stands_then w.sweeper.turns w.sweeper.upper_turns swept),
      )

module _ (law : EndShowsCensus) (script : Script) (old new : Collector) (s : State) (h : StandsAt script old s) where
  abbrev Leads : Type 0
  Leads = (t : State) × (rows : List CycleRow) × EndsOrWaits s.progress s t rows × (report_cycles new ≡ report_cycles old ++ rows) × StandsAt script new t

  stays : (q : Progress) → s.progress ≡ q → EndsOrWaits q s s [] → new ≡ old → Leads
  stays q is waits same = (
    s,
    [],
    subst (λ (p : Progress). EndsOrWaits p s s []) (sym is) waits,
    ap report_cycles same ∙ sym (append-nil (report_cycles old)),
    subst (λ (x : Collector). StandsAt script x s) (sym same) h,
  )

  by_case : (p : Doing) (q : Progress) → old.cycle.progress ≡ p → s.progress ≡ q → phase_in p ≡ phase_of q → Ends s.number p old new → Leads
  by_case doing.Idle idle at is e step = stays idle is (refl, refl) step
  by_case doing.Idle (marking k) at is e step = absurd (let bad : phase.Idle ≡ phase.Marking = e in cc)
  by_case doing.Idle (sweeping k closed) at is e step = absurd (let bad : phase.Idle ≡ phase.Sweeping = e in cc)
  by_case (doing.Marking m) idle at is e step = absurd (let bad : phase.Marking ≡ phase.Idle = e in cc)
  by_case (doing.Marking m) (marking k) at is e step = stays (marking k) is (refl, refl) step
  by_case (doing.Marking m) (sweeping k closed) at is e step = absurd (let bad : phase.Marking ≡ phase.Sweeping = e in cc)
  by_case (doing.Sweeping w) idle at is e step = absurd (let bad : phase.Sweeping ≡ phase.Idle = e in cc)
  by_case (doing.Sweeping w) (marking k) at is e step = absurd (let bad : phase.Sweeping ≡ phase.Marking = e in cc)
  by_case (doing.Sweeping w) (sweeping k closed) at is e step = elim step [
    | inl x ↦ ends_now script old s h w at k closed is law new x.0 x.1
    | inr x ↦ stays (sweeping k closed) is (inr ((λ swept. x.0 (left_none script old s h w at k closed is swept)), refl, refl)) x.1
  ]

-- the end at any stop
pub end_leads : EndShowsCensus → EndLeads
end_leads law script old new s limits h step =
    let phases : phase_in old.cycle.progress ≡ phase_of s.progress = h.matches.phase in
    by_case law script old new s h old.cycle.progress s.progress refl refl phases step
