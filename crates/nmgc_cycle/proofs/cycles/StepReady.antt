-- The requirements of a cycle's closing and beginning are met at a stop.
use Rattle.nmgc_cycle.proofs.Vocabulary.{ℕ, ◌≡◌, ◌+◌, ◌≤◌, List, [], length, map, refl, sym, ap, subst, ◌∙◌, arith, true, Some, slice_get, length-map, FinishMayResolve, IsStopOf, finished_on, stop_opening, CoreHasSnapshot, Core, newest_first, unmarked, World, map_item, item_map, MutatorEnd, Mutator, weak_count, HasRoomToMark, end_of, CollectorSeen, ends_of, DeathsHaveRoom, OldWeak, Marking, seen_mutator, seen, words_in, phase_in, marker_in, AllocState, NoneIs, IsIn, cycle_begun, StandsFor, Segments, HasNone, prepared_stands, AreShown, HeapRests, StopIsPrepared, all_prepared, RestsBeside, opening_beside, IsBeginning, IsPrepared, IsReady, FinQueue, Opening, AreAtRest, HoldsInCycle, IsEmptied, IsMarking, IsPacedAtStop, IsInCourse, AreSettled, epoch_of, State, Progress, idle, marking, sweeping, phase_of, plan_of, layout_of, Cycle, Script, Collector, Doing, CanClose, IsReadyToClose, CanBegin, next_epoch, queues_in, CanCloseNow, CloseNowReady, StandsForState, StandsAt, IsPacedWithin, CloseReady, BeginReady}
use Rattle.nmgc_collector_laws.specs.Worked.{registers_of}
use Rattle.nmgc_alloc.specs.declared.search.Category.TheVariants as sought
use Rattle.nmgc_journal.specs.declared.report.Phase.TheVariants as phase
use Rattle.nmgc_run_spec.specs.Terms as run
use Rattle.nmgc_segment.specs.declared.state.State.TheVariants as stands
use Rattle.nmgc_cycle.specs.declared.progress.Progress.TheVariants as doing
use Rattle.nmgc_cycle.proofs.{lists.MutatorLists.words_of_queues, cycles.PreparedSegments.prepared_sound, lists.Views.registers_seen, lists.Views.queues_seen}

-- Closing

-- the facts on the pace don't matter
abbrev pub StandsInPace : (Cycle → State → CollectorSeen → Type 0) → Script → Collector → State → Type 0
StandsInPace Paced script c s = StandsForState Paced IsEmptied script c s

-- the view of the mutators is the collector's
pub are_shown : (Paced : Cycle → State → CollectorSeen → Type 0) (script : Script) (c : Collector) (s : State) → StandsInPace Paced script c s →
    AreShown c.heap.segments.layout (seen c) c.mutators.items
are_shown Paced script c s h = record { are = refl; each = λ k m e. let own = h.kept.own k m e in (own.number, own.layout, own.whole) }

-- while a cycle marks, its marker may finish, with the heap at rest
module _ (Paced : Cycle → State → CollectorSeen →
    Type 0) (rests : HeapRests) (script : Script) (c : Collector) (s : State) (h : StandsInPace Paced script c s) (k : Cycle) (is : s.progress ≡
    marking k) where
  abbrev pub marks : IsMarking k s (seen c) h.heap.places × Paced k s (seen c)
  marks = subst (λ (q : Progress). HoldsInCycle (λ (r : Cycle). Paced r s (seen c)) q s (seen c) h.heap.places) is h.cycle

  pub at_rest : AreAtRest (layout_of (plan_of script)) h.heap.places s.world (seen c)
  at_rest = record { nurseries = h.nurseries; empty = h.empty; nothing = h.rest }

  pub rests_there : RestsBeside k marks.0.core c.heap.segments h.heap.places s.world (seen c).words c.mutators.items (seen c).marker.queue ×
      IsReady (opening_beside c.heap.segments.layout marks.0.core h.heap.places c.mutators.items) (seen c).words c.heap.segments (seen c).marker
  rests_there = rests (plan_of script) s (seen c) k c.mutators.items h.sound h.heap at_rest is marks.0 h.kept.sound (are_shown Paced script c s h)

  -- the heap of the stop, with the machine
  abbrev pub stop : IsStopOf (layout_of (plan_of script)) k s (seen c) c.mutators.items
  stop = record { heap = h.heap; kept = marks.0; rest = rests_there.0 }

module _ (Paced : Cycle → State → CollectorSeen →
    Type 0) (rests : HeapRests) (core_snapshot : CoreHasSnapshot) (may : FinishMayResolve) (deaths_room : DeathsHaveRoom) (script : Script)
    (c : Collector) (s : State) (h : StandsInPace Paced script c s) (k : Cycle) (is : s.progress ≡ marking k) where
  abbrev now : IsMarking k s (seen c) h.heap.places × Paced k s (seen c)
  now = marks Paced rests script c s h k is

  abbrev there : RestsBeside k now.0.core c.heap.segments h.heap.places s.world (seen c).words c.mutators.items (seen c).marker.queue ×
      IsReady (opening_beside c.heap.segments.layout now.0.core h.heap.places c.mutators.items) (seen c).words c.heap.segments (seen c).marker
  there = rests_there Paced rests script c s h k is

  abbrev here : IsStopOf (layout_of (plan_of script)) k s (seen c) c.mutators.items
  here = stop Paced rests script c s h k is

  -- each queue has room for the listed weak pointers of the snapshot that its mutator made
  own_room : (m : ℕ) (queue : FinQueue) → slice_get (queues_in c.mutators.items) m ≡ Some queue → weak_count now.0.core.snapshot m (seen c).weaks ≤ queue.spare
  own_room m queue is =
      let own = map_item (λ (x : Mutator). x.queue) c.mutators.items m queue is in
      let same = core_snapshot k s.world now.0.core there.0.machine.sound now.0.machine in
      subst (λ (y : World × FinQueue). weak_count y.0 m (seen c).weaks ≤ y.1.spare) (λ i. (
        sym same i,
        sym own.2 i,
      )) (now.0.queue_room m (seen_mutator own.0) (item_map seen_mutator c.mutators.items m own.0 own.1))

  many_queues : length (queues_in c.mutators.items) ≡ length now.0.core.world.mutators
  many_queues = cc (
    length-map c.mutators.items (λ (x : Mutator). x.queue),
    length-map c.mutators.items seen_mutator,
    length-map (map seen_mutator c.mutators.items) end_of,
    length-map (ends_of (seen c)) (λ (m : MutatorEnd). m.queue),
    h.heap.holds.roots.mutators.0,
    now.0.machine.world_is,
  )

  pub ready : (m : Marking) → m.marker ≡ (seen c).marker →
      IsReadyToClose (words_in c.heap.words) c.heap.segments c.heap.weaks.list (queues_in c.mutators.items) m
  ready m marker = record {
    room = subst (HasRoomToMark c.heap.segments) (sym marker) now.0.room;
    opening = stop_opening (layout_of (plan_of script)) k s (seen c) c.mutators.items here;
    ready = rw marker there.1;
    resolves = λ between finisher f. may (layout_of (plan_of script)) k s (seen c) c.mutators.items between finisher here f;
    queue_room = λ between marked finisher then after list deaths f r.
        deaths_room (finished_on (stop_opening (layout_of (plan_of script)) k s (seen c) c.mutators.items here) between finisher f) after
        (words_in c.heap.words) between marked finisher then (seen c).weaks list deaths (queues_in c.mutators.items)
        (may (layout_of (plan_of script)) k s (seen c) c.mutators.items between finisher here f) r
        (many_queues ∙ ap (λ (x : Core). length x.world.mutators) (sym f.rest))
        (λ m queue is. subst (λ (w : World). weak_count w m (seen c).weaks ≤ queue.spare) (ap (λ (x : Core). x.snapshot) (sym f.rest)) (own_room m queue is));
  }

module _ (Paced : Cycle → State → CollectorSeen →
    Type 0) (rests : HeapRests) (core_snapshot : CoreHasSnapshot) (may : FinishMayResolve) (deaths_room : DeathsHaveRoom) (script : Script)
    (c : Collector) (s : State) (h : StandsInPace Paced script c s) where
  now_by : (p : Doing) (q : Progress) → c.cycle.progress ≡ p → s.progress ≡ q → phase_in p ≡ phase_of q →
      CanCloseNow (words_in c.heap.words) c.heap.segments c.heap.weaks.list (queues_in c.mutators.items) p
  now_by doing.Idle q at is e = tt
  now_by (doing.Marking m) idle at is e = absurd (let bad : phase.Marking ≡ phase.Idle = e in cc)
  now_by (doing.Marking m) (marking k) at is e =
      ready Paced rests core_snapshot may deaths_room script c s h k is m (sym (ap marker_in at))
  now_by (doing.Marking m) (sweeping k closed) at is e = absurd (let bad : phase.Marking ≡ phase.Sweeping = e in cc)
  now_by (doing.Sweeping w) q at is e = tt

  -- a marker may finish, whatever its last work left
  pub can_close_now : CanCloseNow (words_in c.heap.words) c.heap.segments c.heap.weaks.list (queues_in c.mutators.items) c.cycle.progress
  can_close_now = now_by c.cycle.progress s.progress refl refl h.matches.phase

-- also if its last work left nothing
close_by : (words : List ℕ) (segments : Segments) (weaks : List OldWeak) (queues : List FinQueue) (p : Doing) →
    CanCloseNow words segments weaks queues p → CanClose words segments weaks queues p
close_by words segments weaks queues doing.Idle can = tt
close_by words segments weaks queues (doing.Marking m) can = λ none. can
close_by words segments weaks queues (doing.Sweeping w) can = tt

pub close_ready : HeapRests → CoreHasSnapshot → FinishMayResolve → DeathsHaveRoom → CloseReady
close_ready rests core_snapshot may deaths_room script c s limits h =
    close_by (words_in c.heap.words) c.heap.segments c.heap.weaks.list (queues_in c.mutators.items) c.cycle.progress
    (can_close_now (IsPacedWithin script.config.quota) rests core_snapshot may deaths_room script c s h)

-- also with the pace of a stop
pub close_now_ready : HeapRests → CoreHasSnapshot → FinishMayResolve → DeathsHaveRoom → CloseNowReady
close_now_ready rests core_snapshot may deaths_room script c s h =
    can_close_now (IsPacedAtStop script.config.quota) rests core_snapshot may deaths_room script c s h

-- Beginning

-- marking may begin with a heap whose segments were just prepared
abbrev pub PreparedBegins : Type 0
PreparedBegins = (o : Opening) (s : Segments) (epoch : ℕ) (words registers : List ℕ) (queues : List FinQueue) →
    IsPrepared o s epoch words registers queues → IsBeginning o s epoch words registers queues

-- the state of an idle collector is idle
pub idle_state : (q : Progress) → phase.Idle ≡ phase_of q → q ≡ idle
idle_state idle e = refl
idle_state (marking k) e = absurd (let bad : phase.Idle ≡ phase.Marking = e in cc)
idle_state (sweeping k closed) e = absurd (let bad : phase.Idle ≡ phase.Sweeping = e in cc)

-- if no segment waits by the allocation state, none does
pub none_back : (segments : Segments) (words : List ℕ) (a : AllocState) → StandsFor segments words a → NoneIs (IsIn stands.Sweeping) a →
    HasNone sought.Sweeping segments
none_back segments words a st none i lt waits = none i (let count = st.count in omega (arith, count, lt)) ((st.shows i lt).state ∙ waits)

module _ (prepares : StopIsPrepared) (begins : PreparedBegins) (script : Script) (c : Collector) (s : State) (h : StandsAt script c s)
    (at : c.cycle.progress ≡ doing.Idle) where
  pub quiet : s.progress ≡ idle
  quiet = idle_state s.progress (sym (ap phase_in at) ∙ h.matches.phase)

  pub none : NoneIs (IsIn stands.Sweeping) s.allocation
  none = subst (λ (q : Progress). IsInCourse q s.number s.begun s.allocation) quiet h.course

  pub settled : AreSettled s.begun c.heap.segments
  settled = subst (λ (q : Progress). HoldsInCycle (λ (r : Cycle). IsPacedAtStop script.config.quota r s (seen c)) q s (seen c) h.heap.places) quiet h.cycle

  -- the opening with the heap of the stop, and its world as the snapshot
  abbrev pub snapshot_opening : Opening
  snapshot_opening = record { layout = layout_of (plan_of script); marking = true; core = unmarked newest_first s.world; places = h.heap.places; hands = [] }

  queues : run.queues_of (ends_of (seen c)) ≡ map (λ (q : FinQueue). q.words) (queues_in c.mutators.items)
  queues = queues_seen c ∙ sym (words_of_queues c.mutators.items)

  pub prepared_there : IsPrepared snapshot_opening (all_prepared c.heap.segments) (epoch_of (s.begun + 1)) (words_in c.heap.words)
      (run.registers_of (ends_of (seen c))) (queues_in c.mutators.items)
  prepared_there = prepares (layout_of (plan_of script)) s (words_in c.heap.words) c.heap.segments (ends_of (seen c)) (seen c).weaks
      (queues_in c.mutators.items) snapshot_opening h.heap h.sound.world h.kept.sound (prepared_sound c.heap.segments h.kept.sound) none settled queues
      refl refl refl

  pub beginning : IsBeginning snapshot_opening (all_prepared c.heap.segments) (next_epoch c) (words_in c.heap.words) (registers_of c.mutators.items)
      (queues_in c.mutators.items)
  beginning =
      let there = begins snapshot_opening (all_prepared c.heap.segments) (epoch_of (s.begun + 1)) (words_in c.heap.words)
      (run.registers_of (ends_of (seen c))) (queues_in c.mutators.items) prepared_there in
      rw (← (registers_seen c)) (rw h.matches.begun there)

  pub prepared_shown : StandsFor (all_prepared c.heap.segments) (words_in c.heap.words) (cycle_begun s.allocation)
  prepared_shown = prepared_stands c.heap.segments (words_in c.heap.words) s.allocation h.heap.holds.stands

  can_begin : CanBegin c
  can_begin = record {
    none_waits = none_back c.heap.segments (words_in c.heap.words) s.allocation h.heap.holds.stands none;
    stood = (cycle_begun s.allocation, prepared_shown);
    begins = (snapshot_opening, beginning);
  }

pub begin_ready : StopIsPrepared → PreparedBegins → BeginReady
begin_ready prepares begins script c s limits h none_yet = can_begin prepares begins script c s h none_yet
