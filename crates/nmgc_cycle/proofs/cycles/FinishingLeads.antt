-- A finished marker with resolved weak pointers closes its cycle in bounds, and the collector represents the sweeping state.
use Rattle.nmgc_cycle.proofs.Vocabulary.{ℕ, ◌≡◌, ◌+◌, ◌-◌, ◌^◌, ◌<◌, ◌≤◌, List, [], ◌∷◌, length, refl, sym, ap, subst, ◌∙◌, arith, IsSome, length-map, StandsFor, Segments, IsSegments, carried_stands, HeapRests, MarkedHolds, FinishMayResolve, ResolveCloses, ClosedHolds, ClosedCycleSweeps, IsStopOf, IsClosingOf, HaveJoinedInRun, ShowsDeaths, closed_state, finished_on, stop_opening, MarkedWait, all_carried, AreEmpty, Name, closed, World, node_of, is_some_of, item_map, nothing_in, Place, IsEarlier, size_of, closing_keeps_earlier, closing_tracks, world_is_earlier, map_item, IsFor, Mutator, IsWhole, Layout, Nursery, HEADER_WORDS, Header, closed_world, closed_names, closed_mutators, closed_serials, Opening, IsKeptObject, Cycle, ClosesNow, IsForcedSoon, IsSoon, AreNurseries, EachMutator, IsEmptied, IsMarking, IsPacedAtStop, HoldsAtStop, Counts, AreSettled, IsSweeping, epoch_of, IsEpoch, CollectorSeen, ends_of, nurseries_of, IsSoundState, State, Progress, idle, marking, sweeping, phase_of, plan_of, layout_of, tracked_fewer, Script, ClosingBeginsWork, IsClosedNow, LeftStays, AreLeft, HasNotes, turned, IsAtWork, Death, IsClosedBy, AreDeaths, HasResolved, places_of, Weaks, HaveEntries, Collector, Marking, Doing, Sweeping, HasClosed, IsClosed, ClosesNowBy, FinishingNowLeads, IsWellFormed, queues_in, died, phase_in, seen, seen_mutator, words_in, StandsAt, IsPacedWithin, FinishingLeads, IsLined, epoch_sound}
use Rattle.nmgc_mark.specs.Stopped.{HasFinished}
use Rattle.nmgc_run_spec.specs.Run.{Closes}
use Rattle.nmgc_run_laws.specs.Sound.{left_of}
use Rattle.nmgc_journal.specs.declared.report.Phase.TheVariants as phase
use Rattle.nmgc_cycle.specs.declared.progress.Progress.TheVariants as doing
use Rattle.nmgc_cycle.proofs.{cycles.Pacing.forced_soon, cycles.Queued.AreWith, cycles.Queued.are_with, cycles.Queued.new_queues, cycles.Queued.old_queues, cycles.Queued.one_with, cycles.Queued.same_nurseries, cycles.Queued.same_registers, cycles.Queued.same_serials, cycles.Queued.same_whole, cycles.StepReady.StandsInPace, cycles.StepReady.marks, cycles.StepReady.rests_there}

-- the laws that a closing uses
pub record ClosingLaws : Type 0 where
  pub rests : HeapRests
  pub may : FinishMayResolve
  pub closes : ResolveCloses
  pub holds : ClosedHolds
  pub marked : MarkedHolds
  pub sweeps : ClosedCycleSweeps
  pub waits : MarkedWait
  pub left : LeftStays
  pub works : ClosingBeginsWork

-- the names of the deaths
died_are : (o : Opening) (dead : List Name) (deaths : List Death) → AreDeaths o dead deaths → died deaths ≡ dead
died_are o [] [] h = refl
died_are o [] (death ∷ deaths) h = absurd h
died_are o (weak ∷ dead) [] h = absurd h
died_are o (weak ∷ dead) (death ∷ deaths) h = ap (λ (n : Name). n ∷ died deaths) h.0.0 ∙ ap (λ (l : List Name). weak ∷ l) (died_are o dead deaths h.1)

module _ (Paced : Cycle → State → CollectorSeen → Type 0) (laws : ClosingLaws) (script : Script) (c : Collector) (st : State) (k : Cycle) (m : Marking)
    (h : StandsInPace Paced script (record c { cycle = record c.cycle { progress = doing.Marking m } }) (record st { progress = marking k }))
    (n : Collector) (some : IsSome n.heap.words) (w : Sweeping)
    (cl : IsClosed st.number (words_in c.heap.words) (words_in n.heap.words) c.heap.segments n.heap.segments c.heap.weaks n.heap.weaks c.mutators.items
    n.mutators.items m w) where
  abbrev old : Collector
  old = record c { cycle = record c.cycle { progress = doing.Marking m } }

  abbrev s : State
  s = record st { progress = marking k }

  abbrev before : List ℕ
  before = words_in c.heap.words

  abbrev words : List ℕ
  words = words_in n.heap.words

  abbrev weaks : Weaks
  weaks = n.heap.weaks

  abbrev later : List Mutator
  later = n.mutators.items

  abbrev layout : Layout
  layout = layout_of (plan_of script)

  abbrev segments : Segments
  segments = all_carried cl.marker.epoch cl.marked

  abbrev work : Sweeping
  work = record { from = m.from; closed = st.number; kept = cl.marker.marked; sweeper = turned m.sweeper m.marker.turns }

  -- the cycle as it marked, and the effect of the calls

  abbrev now : IsMarking k s (seen old) h.heap.places × Paced k s (seen old)
  now = marks Paced laws.rests script old s h k refl

  abbrev stop : IsStopOf layout k s (seen old) c.mutators.items
  stop = record { heap = h.heap; kept = now.0; rest = (rests_there Paced laws.rests script old s h k refl).0 }

  abbrev o : Opening
  o = stop_opening layout k s (seen old) c.mutators.items stop

  abbrev pub finished : HasFinished o cl.between cl.finisher
  finished = cl.finished o (rests_there Paced laws.rests script old s h k refl).1

  abbrev pub resolved : HasResolved (finished_on o cl.between cl.finisher finished) words cl.marked cl.marker weaks.list weaks.deaths
  resolved = cl.resolved (finished_on o cl.between cl.finisher finished) (laws.may layout k s (seen old) c.mutators.items cl.between cl.finisher stop finished)

  abbrev closing : IsClosingOf layout k s (seen old) c.mutators.items words cl.marked cl.marker weaks.list weaks.deaths
  closing = record {
    stop = stop;
    between = cl.between;
    finisher = cl.finisher;
    first = cl.first;
    second = cl.second;
    finished = finished;
    resolved = resolved;
    sound = cl.sound.0;
  }

  abbrev dead : List Name
  dead = resolved.closing.dead

  abbrev t : State
  t = closed_state k st dead

  closed_by : IsClosedBy k s dead cl.marked cl.marker
  closed_by = laws.closes layout k s (seen old) c.mutators.items words cl.marked cl.marker weaks.list weaks.deaths closing

  -- the marker has counted the kept objects, and marked no less than before

  pub kept_there : Counts (IsKeptObject k) cl.marker.marked
  kept_there = closed_by.kept

  pub grows : (seen old).marker.marked ≤ cl.marker.marked
  grows = let a = cl.first.1.scanned.grows in let b = cl.second.1.scanned.grows in omega (arith, a, b)

  pub in_pace : Paced k s (seen old)
  in_pace = now.1

  -- the mutators

  queue_count : length cl.joined.queues ≡ length c.mutators.items
  queue_count = cl.joined.joined.0 ∙ length-map c.mutators.items (λ (x : Mutator). x.queue)

  with_queues : AreWith cl.joined.queues c.mutators.items later
  with_queues = are_with cl.joined.queues c.mutators.items later queue_count cl.joined.have

  abbrev next : Collector
  next = record c {
    heap = record c.heap { words = n.heap.words; segments = segments; weaks = n.heap.weaks };
    cycle = record c.cycle { progress = doing.Sweeping work };
    mutators = n.mutators;
  }

  joined : HaveJoinedInRun (seen old) weaks.deaths cl.joined.queues (ends_of (seen next))
  joined = record {
    old = queues_in c.mutators.items;
    old_are = old_queues c.mutators.items;
    joined = cl.joined.joined;
    queues_are = new_queues cl.joined.queues c.mutators.items later with_queues;
    registers = same_registers cl.joined.queues c.mutators.items later with_queues;
    serials = same_serials cl.joined.queues c.mutators.items later with_queues;
    whole = same_whole cl.joined.queues c.mutators.items later with_queues h.heap.holds.registers;
  }

  same_there : nurseries_of (seen next) ≡ nurseries_of (seen old)
  same_there = same_nurseries cl.joined.queues c.mutators.items later with_queues

  -- words, roots and list represent the closed world

  closed_heap : (g : HoldsAtStop layout t words cl.marked (ends_of (seen next)) (places_of weaks.list)) × (g.places ≡ h.heap.places)
  closed_heap = laws.holds layout k s (seen old) c.mutators.items words cl.marked cl.marker weaks.list weaks.deaths cl.joined.queues
      (ends_of (seen next)) closing joined

  epoch_is : cl.marker.epoch ≡ epoch_of k.number
  epoch_is = cl.second.1.scanned.epoch ∙ cl.first.1.scanned.epoch ∙ now.0.tied.epoch

  stands_then : StandsFor segments words st.allocation
  stands_then = carried_stands cl.marked words st.allocation cl.marker.epoch (subst IsEpoch (sym epoch_is) (epoch_sound k.number)) closed_heap.0.holds.stands

  marked_layout : cl.marked.layout ≡ c.heap.segments.layout
  marked_layout = cl.second.1.layout ∙ cl.first.1.layout

  layout_is : segments.layout ≡ layout
  layout_is = marked_layout ∙ h.kept.layout

  heap : (g : HoldsAtStop layout t words segments (ends_of (seen next)) (seen next).weaks) × (g.places ≡ h.heap.places)
  heap =
      let on = laws.marked layout t words cl.marked segments (ends_of (seen next)) (places_of weaks.list) closed_heap.0 layout_is stands_then in
      (on.0, on.1 ∙ closed_heap.1)

  -- the cycle sweeps

  agrees : ShowsDeaths k st.number dead cl.marker (seen next).cycle
  agrees = record {
    from_is = now.0.from_is;
    closed_is = refl;
    dead_is = died_are (finished_on o cl.between cl.finisher finished) dead weaks.deaths resolved.deaths_are;
    kept_is = refl;
  }

  sweeps_then : IsSweeping k st.number st.allocation segments (seen next).cycle m.sweeper.seen × AreSettled st.begun segments
  sweeps_then = laws.sweeps k s dead words cl.marked cl.marker (seen next).cycle m.sweeper.seen cl.sound.0 closed_heap.0.holds.stands h.course.0
      h.course.1 closed_by epoch_is agrees now.0.noted h.sweeper.2 h.sweeper.3

  left_then : AreLeft segments m.sweeper
  left_then = laws.left c.heap.segments segments m.sweeper (laws.waits c.heap.segments segments before words st.allocation h.heap.holds.stands stands_then)
      marked_layout h.sweeper.0.left

  left_turned : AreLeft segments (turned m.sweeper m.marker.turns)
  left_turned = record { numbers = left_then.numbers; room = left_then.room }

  closed_now : IsClosedNow k st.number st.allocation segments (seen next).cycle m.sweeper.seen.epoch
  closed_now = record {
    from_is = sweeps_then.0.from_is;
    closed_is = sweeps_then.0.closed_is;
    dead = sweeps_then.0.dead;
    kept = sweeps_then.0.kept;
    as_noted = sweeps_then.0.as_noted;
    marked = sweeps_then.0.marked;
    settled = subst (λ (i : ℕ). AreSettled i segments) (sym h.course.0.number_is) sweeps_then.1;
    begun = h.course.0.some;
  }

  notes_then : HasNotes k (turned m.sweeper m.marker.turns)
  notes_then = let was = h.sweeper.0.notes in record { noted = was.noted; once = was.once }

  at_work : IsAtWork k st.number words st.allocation segments (seen next).cycle (turned m.sweeper m.marker.turns)
  at_work = laws.works k st.number words st.allocation segments (seen next).cycle (turned m.sweeper m.marker.turns) stands_then notes_then
      left_turned h.sweeper.1 h.sweeper.2 h.sweeper.3 closed_now

  -- the collector stays well-formed, and the state is sound

  still_kept : IsWellFormed script next
  still_kept = record {
    layout = layout_is;
    sound = subst (λ (g : Segments). IsSegments g) cl.carried cl.sound.1;
    lists = subst (λ (l : Layout). IsFor l c.heap.promotion) (sym marked_layout) h.kept.lists;
    entries = subst (λ (l : Layout). HaveEntries l c.heap.names) (sym marked_layout) h.kept.entries;
    has_words = some;
    count = cl.joined.have.count ∙ h.kept.count;
    own = λ i x e.
        let was = one_with cl.joined.queues c.mutators.items later queue_count cl.joined.have i x e in
        let own = h.kept.own i was.0 was.1 in
        let is = was.2 in
        record {
          number = ap (λ (y : Mutator). y.number) is ∙ own.number;
          layout = ap (λ (y : Mutator). y.layout) is ∙ own.layout ∙ sym marked_layout;
          whole = subst IsWhole (sym is) (record { layout = own.whole.layout; number = own.whole.number; size = own.whole.size });
          no_replies = ap (λ (y : Mutator). y.replies.items) is ∙ own.no_replies;
          line = subst (λ (y : Mutator). IsLined c.inbox i y.sender) (sym is) own.line;
        };
    inbox = h.kept.inbox;
    positions_are = h.kept.positions_are;
    positions = h.kept.positions;
    no_ends = h.kept.no_ends;
    room = h.kept.room;
    workers = h.kept.workers;
  }

  sound_then : IsSoundState (plan_of script) t
  sound_then =
      let world = h.sound.world in
      record {
        world = closed_world st.world dead world;
        able = record {
          programs = h.sound.able.programs;
          mutators = closed_mutators st.world dead world ∙ h.sound.able.mutators;
          registers = h.sound.able.registers;
          serials = λ i. subst (λ (x : ℕ). x + length (left_of st i) < 2 ^ 32 - 1) (sym (closed_serials st.world dead world i)) (h.sound.able.serials i);
        };
        sound_blocks = h.sound.sound_blocks;
        known = λ number block name lies. closed_names st.world dead world name (h.sound.known number block name lies);
        cycle = (
          record {
            sound = h.sound.cycle.0;
            dead = dead;
            lists = closed_by.lists;
            since = [];
            can = tt;
            world_is = ap (λ (x : World). closed x dead) h.sound.cycle.1;
          },
          h.sound.cycle.2,
        );
        earlier = λ e there. absurd (nothing_in e there);
        blocks = λ name tracked other. h.sound.blocks name (closing_tracks st.world dead (k.snapshot ∷
            []) world name (tracked_fewer (closed st.world dead) (k.snapshot ∷ []) name tracked)) other;
      }

  -- no header changed
  still : IsEarlier st.world (closed st.world dead)
  still = closing_keeps_earlier st.world st.world dead h.sound.world (world_is_earlier st.world h.sound.world)

  nurseries_then : AreNurseries layout h.heap.places (closed st.world dead) (nurseries_of (seen old))
  nurseries_then = record {
    used = record {
      count = h.nurseries.used.count;
      places_are = h.nurseries.used.places_are;
      tops = h.nurseries.used.tops;
      used = λ p node there high is.
          let known = is_some_of (node_of st.world p.name) (h.heap.holds.represents.named p there).known in
          let size : size_of known.0 ≡ size_of node = ap (λ (x : Header). HEADER_WORDS + x.fields) (still.headers p.name known.0 node known.1 is) in
          let fits = h.nurseries.used.used p known.0 there high known.1 in
          omega (arith, size, fits);
    };
    ends = h.nurseries.ends;
  }

  rest_then : EachMutator (seen next) (λ i mutator. IsEmptied mutator)
  rest_then i x e =
      let new_one = map_item seen_mutator later i x e in
      let was = one_with cl.joined.queues c.mutators.items later queue_count cl.joined.have i new_one.0 new_one.1 in
      let rest = h.rest i (seen_mutator was.0) (item_map seen_mutator c.mutators.items i was.0 was.1) in
      let is : x ≡ seen_mutator (record was.0 { queue = new_one.0.queue }) = new_one.2 ∙ ap seen_mutator was.2 in
      subst IsEmptied (sym is) (record {
        recorded = rest.recorded;
        young_weaks = rest.young_weaks;
        finalised = rest.finalised;
        entries = rest.entries;
      })

  pub leads : Closes k s t × StandsAt script next t
  leads = (
    closed_by.closes,
    record {
      kept = still_kept;
      sound = sound_then;
      course = (h.course.0, h.course.1.as_noted);
      matches = record { phase = refl; begun = h.matches.begun; collect = h.matches.collect; full = h.matches.full };
      heap = heap.0;
      nurseries = subst (λ (y : List Place × List Nursery). AreNurseries layout y.0 (closed st.world dead) y.1) (λ i. (
        sym heap.1 i,
        sym same_there i,
      )) nurseries_then;
      empty = subst AreEmpty (sym same_there) h.empty;
      rest = rest_then;
      cycle = sweeps_then;
      sweeper = (left_turned, at_work);
      named = h.named;
    },
  )

-- a marker that finished closes its cycle, whatever the facts on its pace
module _ (Paced : Cycle → State → CollectorSeen →
    Type 0) (laws : ClosingLaws) (script : Script) (old new : Collector) (s : State) (k : Cycle) (m : Marking) (w : Sweeping)
    (h : StandsInPace Paced script old s) (is : s.progress ≡ marking k) (at : old.cycle.progress ≡ doing.Marking m) (progress : new.cycle.progress ≡
    doing.Sweeping w)
    (rest : new ≡ record old {
      heap = record old.heap { words = new.heap.words; segments = new.heap.segments; weaks = new.heap.weaks };
      cycle = record old.cycle { progress = new.cycle.progress };
      mutators = new.mutators;
    }) (some : IsSome new.heap.words)
    (cl : IsClosed s.number (words_in old.heap.words) (words_in new.heap.words) old.heap.segments new.heap.segments old.heap.weaks new.heap.weaks
    old.mutators.items new.mutators.items m w) where
  stood : StandsInPace Paced script (record old { cycle = record old.cycle { progress = doing.Marking m } }) (record s { progress = marking k })
  stood =
      let was : old ≡ record old { cycle = record old.cycle { progress = doing.Marking m } } =
      ap (λ (p : Doing). record old { cycle = record old.cycle { progress = p } }) at in
      let state : s ≡ record s { progress = marking k } = ap (λ (q : Progress). record s { progress = q }) is in
      rw (← was) (rw state at h)

  pub paced_there : Paced k (record s { progress = marking k }) (seen (record old { cycle = record old.cycle { progress = doing.Marking m } }))
  paced_there = in_pace Paced laws script old s k m stood new some w cl

  pub counts_kept : Counts (IsKeptObject k) cl.marker.marked
  counts_kept = kept_there Paced laws script old s k m stood new some w cl

  pub marks_more : m.marker.marked ≤ cl.marker.marked
  marks_more = grows Paced laws script old s k m stood new some w cl

  pub closes_there : (t : State) × Closes k s t × StandsAt script new t
  closes_there =
      let all = leads Paced laws script old s k m stood new some w cl in
      let t : State = closed_state k s (resolved Paced laws script old s k m stood new some w cl).closing.dead in
      let carried : Segments = all_carried cl.marker.epoch cl.marked in
      let next : new ≡ record old {
        heap = record old.heap { words = new.heap.words; segments = carried; weaks = new.heap.weaks };
        cycle = record old.cycle {
          progress = doing.Sweeping (record {
            from = m.from;
            closed = s.number;
            kept = cl.marker.marked;
            sweeper = turned m.sweeper m.marker.turns;
          });
        };
        mutators = new.mutators;
      } =
      cc (rest, cl.carried, progress, cl.is) in (
        t,
        subst (λ (q : Progress). Closes k (record s { progress = q }) t) (sym is) all.0,
        subst (λ (x : Collector). StandsAt script x t) (sym next) all.1,
      )

pub finishing_leads : ClosingLaws → FinishingLeads
finishing_leads laws script old new s k m w limits h is at none_left progress closing cl =
    let P : Cycle → State → CollectorSeen → Type 0 = IsPacedWithin script.config.quota in
    let there = closes_there P laws script old new s k m w h is at progress closing.rest closing.has_words cl in
    let paced : IsPacedWithin script.config.quota k (record s { progress = marking k })
    (seen (record old { cycle = record old.cycle { progress = doing.Marking m } })) =
    paced_there P laws script old new s k m w h is at progress closing.rest closing.has_words cl in
    let counted = counts_kept P laws script old new s k m w h is at progress closing.rest closing.has_words cl in
    let more = marks_more P laws script old new s k m w h is at progress closing.rest closing.has_words cl in
    (there.0, there.1, paced.closes none_left cl.marker.marked more counted, there.2)

-- a forced closing isn't too late, by the pace
module _ (laws : ClosingLaws) (script : Script) (old new : Collector) (s : State) (h : StandsAt script old s)
    (closing : HasClosed ClosesNowBy s.number old new) where
  abbrev Leads : Type 0
  Leads = (t : State) × ClosesNow s.progress s t × StandsAt script new t × IsForcedSoon script.config.quota s.progress s.number

  stays : (q : Progress) → s.progress ≡ q → ClosesNow q s s → IsForcedSoon script.config.quota q s.number → new ≡ old → Leads
  stays q is closes soon same = (
    s,
    subst (λ (x : Progress). ClosesNow x s s) (sym is) closes,
    subst (λ (x : Collector). StandsAt script x s) (sym same) h,
    subst (λ (x : Progress). IsForcedSoon script.config.quota x s.number) (sym is) soon,
  )

  by_case : (p : Doing) (q : Progress) → old.cycle.progress ≡ p → s.progress ≡ q → phase_in p ≡ phase_of q → ClosesNowBy s.number p old new → Leads
  by_case doing.Idle idle at is e step = stays idle is refl tt step
  by_case doing.Idle (marking k) at is e step = absurd (let bad : phase.Idle ≡ phase.Marking = e in cc)
  by_case doing.Idle (sweeping k since) at is e step = absurd (let bad : phase.Idle ≡ phase.Sweeping = e in cc)
  by_case (doing.Marking m) idle at is e step = absurd (let bad : phase.Marking ≡ phase.Idle = e in cc)
  by_case (doing.Marking m) (marking k) at is e step =
      let P : Cycle → State → CollectorSeen → Type 0 = IsPacedAtStop script.config.quota in
      let t = closes_there P laws script old new s k m step.0 h is at step.1 closing.rest closing.has_words step.2 in
      let paced : IsPacedAtStop script.config.quota k (record s { progress = marking k })
      (seen (record old { cycle = record old.cycle { progress = doing.Marking m } })) =
      paced_there P laws script old new s k m step.0 h is at step.1 closing.rest closing.has_words step.2 in
      let counted = counts_kept P laws script old new s k m step.0 h is at step.1 closing.rest closing.has_words step.2 in
      let more = marks_more P laws script old new s k m step.0 h is at step.1 closing.rest closing.has_words step.2 in
      let soon : IsSoon script.config.quota k s.number =
      forced_soon script.config.quota k (record s { progress = marking k }) (seen (record old { cycle = record old.cycle { progress = doing.Marking m } }))
      step.2.marker.marked paced more counted in (
        t.0,
        subst (λ (q : Progress). ClosesNow q s t.0) (sym is) t.1,
        t.2,
        subst (λ (q : Progress). IsForcedSoon script.config.quota q s.number) (sym is) soon,
      )
  by_case (doing.Marking m) (sweeping k since) at is e step = absurd (let bad : phase.Marking ≡ phase.Sweeping = e in cc)
  by_case (doing.Sweeping w) idle at is e step = absurd (let bad : phase.Sweeping ≡ phase.Idle = e in cc)
  by_case (doing.Sweeping w) (marking k) at is e step = absurd (let bad : phase.Sweeping ≡ phase.Marking = e in cc)
  by_case (doing.Sweeping w) (sweeping k since) at is e step = stays (sweeping k since) is refl tt step

pub finishing_now_leads : ClosingLaws → FinishingNowLeads
finishing_now_leads laws script old new s limits h closing =
    by_case laws script old new s h closing old.cycle.progress s.progress refl refl h.matches.phase closing.closes
