-- The steps of a stop leave no more rounds to follow.
use Rattle.std.proofs.{Common.ℕ, Common.suc, Common.◌≡◌, Common.◌+◌, Common.◌<◌, Common.◌≤◌, Common.List, Common.[], Common.◌∷◌, Common.◌++◌, Common.length, Common.refl, Common.sym, Common.ap, Common.subst, Common.◌∙◌, Common.arith, Common.Bool, Common.true, Common.false, Common.inl, Common.inr, Common.length-append, lemmas.Bool.cases_lt, lemmas.List.get_or_past}
use Rattle.std.specs.Prelude.{if◌then◌else◌, Contains, Option}
use Rattle.nmgc_alloc.specs.{AllocState.AllocState, AllocState.StandsFor, AllocState.Segments, Segments.IsWaiting}
use Rattle.nmgc_segment.specs.Segment.{Segment, free_segment}
use Rattle.nmgc_segment.specs.declared.state.State.TheVariants as stands
use Rattle.nmgc_stop_spec.specs.Cycle.{IsPromoted, PlacesEach}
use Rattle.nmgc_world_spec.specs.{World.World, World.node_of, declared.value.Name.Name, Reach.Ascends}
use Rattle.nmgc_mark.specs.{Marker.StandAsBefore, Beginning.most_blocks, declared.marker.Work.Work}
use Rattle.nmgc_object.specs.declared.layout.Layout.{Layout}
use Rattle.nmgc_journal.specs.{declared.report.End.End, declared.report.RoundRows.RoundRows, declared.report.StopRow.StopRow}
use Rattle.nmgc_script.specs.declared.script.Script.{Script}
use Rattle.nmgc_sweep.specs.Sweeper.{Sweeper, AreLeft}
use Rattle.nmgc_run_spec.specs.Run.{Promotes, State}
use Rattle.nmgc_cycle.specs.{declared.collector.Collector.Collector, declared.progress.Marking.Marking, declared.progress.Progress.Progress as Doing, declared.progress.Sweeping.Sweeping, Shown.words_in, Shown.work_in, Stopping.HasPromoted, Bound.commands_left, Bound.heap_of, Bound.phase_left, Bound.MayFollow, Bound.AreFew, Bound.AreFewAtStop, Bound.HasMore, Bound.NoneIsDue, Bound.commands, Bound.one_cycle, Bound.no_cycle, Cycles.HasTaken, Cycles.AddsTo, Cycles.HasClosed, Cycles.Closes, Cycles.Ends, Cycles.IsDue, Cycles.Begins, Cycles.HasStarted, Cycles.all_prepared, Cycles.remembered_by, Cycles.HasStood}
use Rattle.nmgc_cycle.specs.declared.progress.Progress.TheVariants as doing
use Rattle.nmgc_cycle.proofs.lengths.Few.{leaves_few, same_few}
use Rattle.nmgc_lists.specs.laws.Options.{not_none}

-- segments that represent the same allocation state have the same count of filled segments
fresh_by : (old new : Segments) (words after : List ℕ) (a : AllocState) → StandsFor old words a → StandsFor new after a → new.fresh ≡ old.fresh
fresh_by old new words after a h g = sym g.fresh ∙ h.fresh

fresh_before : (old new : Segments) (words : List ℕ) (a : AllocState) → StandsFor old words a → StandAsBefore old new → new.fresh ≡ old.fresh
fresh_before old new words a h stays = fresh_by old new words words a h (stays words a h)

-- Promotion

-- in an unchanged world no object is new
none_young : (w : World) (name : Name) → IsPromoted w w name → ⊥
none_young w name h = not_none (node_of w name) h.0.0 h.0.1

none_placed : (layout : Layout) (w : World) (a b : AllocState) (names : List Name) → ((name : Name) → Contains names name → ⊥) →
    PlacesEach layout w a names b → b ≡ a
none_placed layout w a b [] none e = e
none_placed layout w a b (name ∷ names) none h = absurd (none name (0, omega arith, refl))

module _ (script : Script) (old new : Collector) (stops : ℕ) (layout : Layout) (began : World) (s t : State) (count : ℕ) (words after : List ℕ)
    (promoted : HasPromoted old new) (promotes : Promotes layout began s t count) (was : StandsFor old.heap.segments words s.allocation)
    (is : StandsFor new.heap.segments after t.allocation) where
  as_fresh : s.world ≡ began → new.heap.segments.fresh ≡ old.heap.segments.fresh
  as_fresh e =
      let none : (name : Name) → Contains promotes.names name →
      ⊥ = λ name there. none_young s.world name (subst (λ (w : World). IsPromoted w s.world name) (sym e) (promotes.lists.sound name there)) in
      let same = ap (λ (a : AllocState). a.fresh) (none_placed layout s.world s.allocation t.allocation promotes.names none promotes.places) in
      sym is.fresh ∙ same ∙ was.fresh

  -- a promotion of nothing leaves the count of filled segments
  pub promoting_few : AreFew (s.world ≡ began) script old stops → AreFew (Unit {0}) script new stops
  promoting_few few =
      let progress = ap (λ (c : Collector). phase_left script.config.segments c.cycle.progress) promoted.rest in
      leaves_few (s.world ≡ began) (Unit {0}) script old new stops (ap (λ (c : Collector). c.rows.rounds) promoted.rest) (omega (arith, progress)) (λ e not. (
        tt,
        record {
          not_asked = ap (λ (c : Collector). c.cycle.collect) promoted.rest ∙ not.not_asked;
          not_filled = λ some. let less = not.not_filled some in let same = as_fresh e in omega (arith, less, same);
        },
      )) few

-- Adding

module _ (script : Script) (old new : Collector) (stops : ℕ) (words : List ℕ) (a : AllocState) (st : StandsFor old.heap.segments words a)
    (taken : HasTaken old new) where
  adds : (p q : Doing) (entries : List ℕ) → AddsTo entries old.heap.segments new.heap.segments p q →
      (phase_left script.config.segments q ≡ phase_left script.config.segments p) × (new.heap.segments.fresh ≡ old.heap.segments.fresh)
  adds doing.Idle q entries h = (ap (phase_left script.config.segments) h.0, ap (λ (x : Segments). x.fresh) h.1)
  adds (doing.Sweeping w) q entries h = (ap (phase_left script.config.segments) h.0, ap (λ (x : Segments). x.fresh) h.1)
  adds (doing.Marking m) q entries h =
      let pace = h.2.marked.scanned.pace in
      let room = h.2.marked.scanned.room in
      let waits : h.0.spare + length h.0.queue ≡ m.marker.spare + length m.marker.queue = omega (arith, pace, room) in (
        ap (phase_left script.config.segments) h.1 ∙ ap (λ (n : ℕ). if m.last.empty then script.config.segments + 1 else n + script.config.segments + 2) waits,
        fresh_before old.heap.segments new.heap.segments words a st h.2.marked.stands,
      )

  pub taking_few : AreFew (Unit {0}) script old stops → AreFew (Unit {0}) script new stops
  taking_few few =
      let same = adds old.cycle.progress new.cycle.progress (remembered_by old.mutators.items) taken.adds in
      let phase = same.0 in
      let fresh = same.1 in
      leaves_few (Unit {0}) (Unit {0}) script old new stops (ap (λ (c : Collector). c.rows.rounds) taken.rest) (omega (arith, phase)) (λ e not. (
        tt,
        record {
          not_asked = ap (λ (c : Collector). c.cycle.collect) taken.rest ∙ not.not_asked;
          not_filled = λ some. let less = not.not_filled some in omega (arith, less, fresh);
        },
      )) few

-- Closing

-- ascending numbers below a bound are no more than the bound
ascending : (m bound n : ℕ) (ns : List ℕ) → Ascends (n ∷ ns) → m ≤ n → ((k : ℕ) → Contains (n ∷ ns) k → k < bound) → m + length (n ∷ ns) ≤ bound
ascending m bound n [] up from each = let here = each n (0, omega arith, refl) in omega (arith, here, from)
ascending m bound n (next ∷ ns) up from each =
    let rest = ascending (m + 1) bound next ns up.1 (let less = up.0 in
    omega (arith, less, from)) (λ k there. each k (suc there.0, (let lt = there.1 in omega (arith, lt)), there.2)) in
    omega (arith, rest)

few_numbers : (bound : ℕ) (ns : List ℕ) → Ascends ns → ((k : ℕ) → Contains ns k → k < bound) → length ns ≤ bound
few_numbers bound [] up each = omega arith
few_numbers bound (n ∷ ns) up each = let all = ascending 0 bound n ns up (omega arith) each in omega (arith, all)

-- a waiting segment is a segment of the heap
pub waits_in : (segments : Segments) (number : ℕ) → IsWaiting segments number → number < length segments.segments
waits_in segments number waits = elim (cases_lt number (length segments.segments)) [
  | inl lt ↦ lt
  | inr past ↦ absurd (let e : stands.Free ≡ stands.Sweeping = sym (ap (λ (x : Segment). x.state) (get_or_past segments.segments number (free_segment 0) past)) ∙ waits in
      cc)
]

-- no more segments are left than there are
pub left_few : (segments : Segments) (sweeper : Sweeper) → AreLeft segments sweeper → length sweeper.left ≤ length segments.segments
left_few segments sweeper h = few_numbers (length segments.segments) sweeper.left h.numbers.ordered (λ k there. waits_in segments k (h.numbers.sound k there))

module _ (script : Script) (old new : Collector) (stops stop : ℕ) (words : List ℕ) (a : AllocState) (st : StandsFor old.heap.segments words a)
    (count : length old.heap.segments.segments ≡ script.config.segments) (waiting : (m : Marking) → old.cycle.progress ≡ doing.Marking m →
    AreLeft old.heap.segments m.sweeper) (closed : HasClosed Closes stop old new) where
  Closed : Type 0
  Closed = (phase_left script.config.segments new.cycle.progress ≤ phase_left script.config.segments old.cycle.progress) ×
      (new.heap.segments.fresh ≡ old.heap.segments.fresh)

  same : new ≡ old → Closed
  unfolding Closed
  same e = (
    let phase = ap (λ (c : Collector). phase_left script.config.segments c.cycle.progress) e in omega (arith, phase),
    ap (λ (c : Collector). c.heap.segments.fresh) e,
  )

  closes : (p : Doing) → old.cycle.progress ≡ p → Closes stop p old new → Closed
  unfolding Closed
  closes doing.Idle is h = same h
  closes (doing.Sweeping w) is h = same h
  closes (doing.Marking m) is (inr h) = same h.1
  closes (doing.Marking m) is (inl h) =
      let before : phase_left script.config.segments old.cycle.progress ≡ phase_left script.config.segments (doing.Marking m) =
      ap (phase_left script.config.segments) is in
      let was : phase_left script.config.segments (doing.Marking m) ≡ script.config.segments + 1 =
      ap (λ (b : Bool). if b then script.config.segments + 1 else m.marker.spare + length m.marker.queue + script.config.segments + 2) h.0 in
      let w : Sweeping = h.1.0 in
      let now : phase_left script.config.segments new.cycle.progress ≡ phase_left script.config.segments (doing.Sweeping w) =
      ap (phase_left script.config.segments) h.1.1 in
      let own : phase_left script.config.segments (doing.Sweeping w) ≡ length m.sweeper.left = ap (λ (x : Sweeping). length x.sweeper.left) h.1.2.is in
      let few = left_few old.heap.segments m.sweeper (waiting m is) in
      let stays : StandAsBefore old.heap.segments h.1.2.marked = λ words b there. h.1.2.second.1.stands words b (h.1.2.first.1.stands words b there) in (
        omega (arith, before, was, now, own, few, count),
        ap (λ (x : Segments). x.fresh) h.1.2.carried ∙ fresh_before old.heap.segments h.1.2.marked words a st stays,
      )

  pub closing_few : AreFew (Unit {0}) script old stops → AreFew (Unit {0}) script new stops
  unfolding Closed
  closing_few few =
      let by : Closed = closes old.cycle.progress refl closed.closes in
      let fresh = by.1 in
      leaves_few (Unit {0}) (Unit {0}) script old new stops (ap (λ (c : Collector). c.rows.rounds) closed.rest) by.0 (λ e not. (
        tt,
        record {
          not_asked = ap (λ (c : Collector). c.cycle.collect) closed.rest ∙ not.not_asked;
          not_filled = λ some. let less = not.not_filled some in omega (arith, less, fresh);
        },
      )) few

-- a cycle that still marks after the closing has something left to scan

goes_by : (stop : ℕ) (p : Doing) (old new : Collector) → old.cycle.progress ≡ p → Closes stop p old new → (m : Marking) → new.cycle.progress ≡ doing.Marking m →
    m.last.empty ≡ false
goes_by stop doing.Idle old new was h m is = absurd (let bad : doing.Idle ≡ doing.Marking m = sym (ap (λ (c : Collector). c.cycle.progress) h ∙ was) ∙ is in cc)
goes_by stop (doing.Sweeping w) old new was h m is =
    absurd (let bad : doing.Sweeping w ≡ doing.Marking m = sym (ap (λ (c : Collector). c.cycle.progress) h ∙ was) ∙ is in cc)
goes_by stop (doing.Marking n) old new was (inl h) m is = absurd (let bad : doing.Sweeping h.1.0 ≡ doing.Marking m = sym h.1.1 ∙ is in cc)
goes_by stop (doing.Marking n) old new was (inr h) m is = ap (λ (x : Doing). (work_in x).empty) (sym is ∙ ap (λ (c : Collector). c.cycle.progress) h.1 ∙
    was) ∙ h.0

pub closing_goes : (stop : ℕ) (old new : Collector) → HasClosed Closes stop old new → (m : Marking) → new.cycle.progress ≡ doing.Marking m → m.last.empty ≡
    false
closing_goes stop old new closed m is = goes_by stop old.cycle.progress old new refl closed.closes m is

-- The end of a cycle

module _ (script : Script) (old new : Collector) (stops stop : ℕ) (ends : Ends stop old.cycle.progress old new) where
  same_all : new ≡ old → AreFew (Unit {0}) script old stops → AreFew (Unit {0}) script new stops
  same_all e few = subst (λ (c : Collector). AreFew (Unit {0}) script c stops) (sym e) few

  ended : (p : Doing) → Ends stop p old new → AreFew (Unit {0}) script old stops → AreFew (Unit {0}) script new stops
  ended doing.Idle h few = same_all h few
  ended (doing.Marking m) h few = same_all h few
  ended (doing.Sweeping w) (inr h) few = same_all h.1 few
  ended (doing.Sweeping w) (inl h) few =
      let none : phase_left script.config.segments new.cycle.progress ≡ 0 = ap (λ (c : Collector). phase_left script.config.segments c.cycle.progress) h.1 in
      let fresh = ap (λ (c : Collector). c.heap.segments.fresh) h.1 in
      leaves_few (Unit {0}) (Unit {0}) script old new stops (ap (λ (c : Collector). c.rows.rounds) h.1) (omega (arith, none)) (λ e not. (
        tt,
        record {
          not_asked = ap (λ (c : Collector). c.cycle.collect) h.1 ∙ not.not_asked;
          not_filled = λ some. let less = not.not_filled some in omega (arith, less, fresh);
        },
      )) few

  pub ending_few : AreFew (Unit {0}) script old stops → AreFew (Unit {0}) script new stops
  ending_few few = ended old.cycle.progress ends few

  none_in : (l : List ℕ) → length l ≡ 0 → l ≡ []
  none_in [] none = refl
  none_in (x ∷ xs) none = absurd (omega (arith, none))

  more : (p : Doing) → old.cycle.progress ≡ p → Ends stop p old new → ((m : Marking) → p ≡ doing.Marking m → m.last.empty ≡ false) →
      HasMore new.cycle.progress
  more doing.Idle is h goes = subst HasMore (sym (ap (λ (c : Collector). c.cycle.progress) h ∙ is)) tt
  more (doing.Marking m) is h goes = subst HasMore (sym (ap (λ (c : Collector). c.cycle.progress) h ∙ is)) (goes m refl)
  more (doing.Sweeping w) is (inl h) goes = subst HasMore (sym (ap (λ (c : Collector). c.cycle.progress) h.1)) tt
  more (doing.Sweeping w) is (inr h) goes = subst HasMore (sym (ap (λ (c : Collector). c.cycle.progress) h.1 ∙ is))
      (elim (cases_lt 0 (length w.sweeper.left)) [
        | inl some ↦ omega (arith, some)
        | inr none ↦ absurd (h.0 (none_in w.sweeper.left (omega (arith, none))))
      ])

  -- a cycle that goes on has something left
  pub ending_more : ((m : Marking) → old.cycle.progress ≡ doing.Marking m → m.last.empty ≡ false) → HasMore new.cycle.progress
  ending_more goes = more old.cycle.progress refl ends goes

-- The beginning of a cycle

module _ (script : Script) (old new : Collector) (stops stop : ℕ) (layout : old.heap.segments.layout ≡
    heap_of script) (due : IsDue script.config.trigger old) (stood : HasStood (all_prepared old.heap.segments) (words_in old.heap.words))
    (started : HasStarted stop old new) where
  abbrev m : Marking
  m = started.marking

  began_rounds : new.rows.rounds ≡ old.rows.rounds
  began_rounds = ap (λ (c : Collector). c.rows.rounds) started.is ∙ ap (λ (c : Collector). c.rows.rounds) started.starts.rest

  began_phase : phase_left script.config.segments new.cycle.progress ≡ most_blocks (heap_of script) + script.config.segments + 2
  began_phase =
      let pace = started.starts.marked.scanned.pace in
      let room = started.starts.marked.scanned.room in
      let most = ap most_blocks layout in
      let all : m.marker.spare + length m.marker.queue ≡ most_blocks (heap_of script) = omega (arith, pace, room, most) in
      ap (λ (c : Collector). phase_left script.config.segments c.cycle.progress) started.is
      ∙ ap (λ (b : Bool). if b then script.config.segments + 1 else m.marker.spare + length m.marker.queue + script.config.segments + 2)
      (ap (λ (w : Work). w.empty) started.starts.last)
      ∙ ap (λ (n : ℕ). n + script.config.segments + 2) all

  began_fresh : new.heap.segments.fresh ≡ 0
  began_fresh = ap (λ (c : Collector). c.heap.segments.fresh) started.is ∙
      fresh_before (all_prepared old.heap.segments) started.marked.heap.segments (words_in old.heap.words) stood.0 stood.1 started.starts.marked.stands

  none_due : NoneIsDue script.config.trigger new
  none_due = record { not_asked = ap (λ (c : Collector). c.cycle.collect) started.is; not_filled = λ some. omega (arith, began_fresh, some) }

  contradiction : NoneIsDue script.config.trigger old → ⊥
  contradiction not = elim due.1 [
    | inl asked ↦ (let bad : true ≡ false = sym asked ∙ not.not_asked in cc)
    | inr filled ↦ (let some = filled.0 in let all = filled.1 in let less = not.not_filled some in omega (arith, all, less))
  ]

  began : MayFollow (Unit {0}) script old stops → MayFollow (Unit {0}) script new stops
  began (commands h) = commands (let same = ap (λ (r : List RoundRows). commands_left script.threads r) began_rounds in omega (arith, h, same))
  began (one_cycle none h) = no_cycle (ap (λ (r : List RoundRows). commands_left script.threads r) began_rounds ∙
      none) tt none_due (let phase = began_phase in omega (arith, h, phase))
  began (no_cycle none nothing not h) = absurd (contradiction not)

  pub started_few : AreFew (Unit {0}) script old stops → AreFew (Unit {0}) script new stops
  started_few few = record { follow = began few.follow; phase = (let phase = began_phase in omega (arith, phase)) }

-- a cycle begins if one is due
pub beginning_few : (script : Script) (old new : Collector) (stops stop : ℕ) → old.heap.segments.layout ≡ heap_of script →
    (IsDue script.config.trigger old → HasStood (all_prepared old.heap.segments) (words_in old.heap.words)) → Begins script.config.trigger stop old new →
    AreFew (Unit {0}) script old stops → AreFew (Unit {0}) script new stops
beginning_few script old new stops stop layout stood (inl h) few = started_few script old new stops stop layout h.0 (stood h.0) h.1 few
beginning_few script old new stops stop layout stood (inr h) few = subst (λ (c : Collector). AreFew (Unit {0}) script c stops) (sym h.1) few

pub beginning_more : (trigger stop : ℕ) (old new : Collector) → Begins trigger stop old new → HasMore old.cycle.progress → HasMore new.cycle.progress
beginning_more trigger stop old new (inl h) more = subst HasMore (sym (ap (λ (c : Collector). c.cycle.progress) h.1.is))
    (ap (λ (w : Work). w.empty) h.1.starts.last)
beginning_more trigger stop old new (inr h) more = subst (λ (c : Collector). HasMore c.cycle.progress) (sym h.1) more

-- at most one further cycle was begun
pub beginning_begun : (trigger stop : ℕ) (old new : Collector) → Begins trigger stop old new → new.cycle.begun ≤ old.cycle.begun + 1
beginning_begun trigger stop old new (inl h) = let e = ap (λ (c : Collector). c.cycle.begun) h.1.is in omega (arith, e)
beginning_begun trigger stop old new (inr h) = let e = ap (λ (c : Collector). c.cycle.begun) h.1 in omega (arith, e)

-- The whole stop: its row, and its answer

pub few_at_stop : (script : Script) (c : Collector) (before : List StopRow) (row : StopRow) (answered : Option End) →
    AreFew (Unit {0}) script c (length before + 1) → c.cycle.begun ≤ length before + 1 → HasMore c.cycle.progress →
    AreFewAtStop script (record c { rows = record c.rows { stops = before ++ row ∷ [] }; answered = answered })
few_at_stop script c before row answered few begun more =
    let last : Collector = record c { rows = record c.rows { stops = before ++ row ∷ [] }; answered = answered } in
    let many = length-append before (row ∷ []) in
    let count : length before + 1 ≡ length last.rows.stops = omega (arith, many) in
    record {
      few = subst (λ (n : ℕ). AreFew (Unit {0}) script last n) count (same_few (Unit {0}) script c last (length before + 1) refl refl refl refl few);
      begun = omega (arith, begun, many);
      more = more;
    }
