-- A due cycle that was started is the run's next cycle.
use Rattle.nmgc_cycle.proofs.Vocabulary.{ℕ, ◌≡◌, ◌≢◌, ◌+◌, ◌≤◌, List, [], false, refl, sym, ap, subst, ◌∙◌, arith, Some, inl, inr, slice_get, Name, World, shared_name, contains_cases, nothing_in, Layout, Nursery, StandsFor, HasBlock, NoneIs, IsIn, cycle_begun, Segments, begun_names, SnapshotIsMarking, MarkedHolds, PaceBegins, StopIsPrepared, StopBegins, all_prepared, MarkedWait, AreEmpty, Place, IsEarlier, IsTracked, world_is_earlier, map_item, MutatorEnd, most_blocks, HasMarked, blank, IsFor, Mutator, Opening, AreNurseries, EachMutator, IsEmptied, IsMarking, IsPacedAtStop, weak_count, CyclesBeginInCourse, HoldsAtStop, snapshots, epoch_of, MutatorSeen, ends_of, nurseries_of, IsSoundState, State, next_cycle, cycle_started, plan_of, layout_of, Cycle, begun_filed, tracked_fewer, tracked_itself, Script, StartNotesSegments, LeftStays, AreLeft, HasNotes, HasBegun, named_begun, HaveEntries, Collector, Marking, StartsMarking, next_epoch, IsWellFormed, IsOwn, HasQueueRoom, count_made_by, seen, seen_mutator, words_in, StandsAt, StartingLeads}
use Rattle.nmgc_segment.specs.declared.state.State.TheVariants as stands
use Rattle.nmgc_cycle.specs.declared.progress.Progress.TheVariants as doing
use Rattle.nmgc_cycle.proofs.{cycles.Closing.words_same, cycles.QueueRoom.counted, cycles.QueueRoom.one_room, cycles.QueueRoom.room_ends, cycles.QueueRoom.room_nurseries, lists.RootLists.seen_at, cycles.StepReady.PreparedBegins, cycles.StepReady.none, cycles.StepReady.snapshot_opening, cycles.StepReady.beginning, cycles.StepReady.prepared_shown}

-- the laws that a beginning uses
pub record BeginningLaws : Type 0 where
  pub prepares : StopIsPrepared
  pub begins : PreparedBegins
  pub stop : StopBegins
  pub marked : MarkedHolds
  pub marks : SnapshotIsMarking
  pub noted : StartNotesSegments
  pub left : LeftStays
  pub waits : MarkedWait
  pub pace : PaceBegins
  pub course : CyclesBeginInCourse

module _ (laws : BeginningLaws) (script : Script) (c : Collector) (s : State) (h : StandsAt script c s) (at : c.cycle.progress ≡ doing.Idle)
    (before : Collector) (mk : Marking) (st : StartsMarking s.number c before mk) where
  abbrev plan : Layout
  plan = layout_of (plan_of script)

  abbrev words : List ℕ
  words = words_in c.heap.words

  abbrev k : Cycle
  k = next_cycle s

  abbrev t : State
  t = record (cycle_started s) { collect = false }

  abbrev segments : Segments
  segments = before.heap.segments

  abbrev next : Collector
  next = record c {
    heap = record c.heap { segments = before.heap.segments };
    mutators = before.mutators;
    cycle = record c.cycle { progress = doing.Marking mk; begun = c.cycle.begun + 1; collect = false };
  }

  no_wait : NoneIs (IsIn stands.Sweeping) s.allocation
  no_wait = none laws.prepares laws.begins script c s h at

  -- only the room in the mutators' queues changed

  ends_same : ends_of (seen next) ≡ ends_of (seen c)
  ends_same = room_ends c.heap.weaks.list c.mutators.items before.mutators.items st.queue_room

  nurseries_same : nurseries_of (seen next) ≡ nurseries_of (seen c)
  nurseries_same = room_nurseries c.heap.weaks.list c.mutators.items before.mutators.items st.queue_room

  -- a mutator, without the room
  was : (n : ℕ) (m : Mutator) → slice_get before.mutators.items n ≡ Some m → (b : Mutator) × (slice_get c.mutators.items n ≡ Some b) ×
      HasQueueRoom (count_made_by b.number c.heap.weaks.list) b m
  was n m e = one_room c.heap.weaks.list c.mutators.items before.mutators.items st.queue_room n m e

  layout_is : segments.layout ≡ c.heap.segments.layout
  layout_is = st.marked.layout

  own_then : (n : ℕ) (m : Mutator) → slice_get before.mutators.items n ≡ Some m → IsOwn next n m
  own_then n m e =
      let b = was n m e in
      let own = h.kept.own n b.0 b.1 in
      rw b.2.rest (record {
        number = own.number;
        layout = own.layout ∙ sym layout_is;
        whole = record { layout = own.whole.layout; number = own.whole.number; size = own.whole.size };
        no_replies = own.no_replies;
        line = own.line;
      })

  rest_then : EachMutator (seen next) (λ n mutator. IsEmptied mutator)
  rest_then n mutator e =
      let x = map_item seen_mutator before.mutators.items n mutator e in
      let b = was n x.0 x.1 in
      let left : IsEmptied (seen_mutator b.0) = h.rest n (seen_mutator b.0) (seen_at c.mutators.items n b.0 b.1) in
      subst IsEmptied (sym (x.2 ∙ ap seen_mutator b.2.rest)) (record {
        recorded = left.recorded;
        young_weaks = left.young_weaks;
        finalised = left.finalised;
        entries = left.entries;
      })

  queue_room_then : EachMutator (seen next) (λ n mutator. weak_count s.world n (seen next).weaks ≤ mutator.queue.spare)
  queue_room_then n mutator e =
      let x = map_item seen_mutator before.mutators.items n mutator e in
      let b = was n x.0 x.1 in
      let own = own_then n x.0 x.1 in
      let number : b.0.number ≡ n = sym (ap (λ (y : Mutator). y.number) b.2.rest) ∙ own.number in
      let room : count_made_by n c.heap.weaks.list ≤ x.0.queue.spare = subst (λ (i : ℕ). count_made_by i c.heap.weaks.list ≤ x.0.queue.spare) number b.2.room in
      let few : weak_count s.world n (seen c).weaks ≤ count_made_by n c.heap.weaks.list = counted s.world n c.heap.weaks.list in
      let enough : weak_count s.world n (seen c).weaks ≤ x.0.queue.spare = omega (arith, few, room) in
      subst (λ (y : MutatorSeen). weak_count s.world n (seen c).weaks ≤ y.queue.spare) (sym x.2) enough

  still_kept : IsWellFormed script next
  still_kept = record {
    layout = layout_is ∙ h.kept.layout;
    sound = st.sound;
    lists = subst (λ (l : Layout). IsFor l c.heap.promotion) (sym layout_is) h.kept.lists;
    entries = subst (λ (l : Layout). HaveEntries l c.heap.names) (sym layout_is) h.kept.entries;
    has_words = h.kept.has_words;
    count = st.queue_room.count ∙ h.kept.count;
    own = own_then;
    inbox = h.kept.inbox;
    positions_are = h.kept.positions_are;
    positions = h.kept.positions;
    no_ends = h.kept.no_ends;
    room = h.kept.room;
    workers = h.kept.workers;
  }

  -- the state is sound

  sound_then : IsSoundState (plan_of script) t
  sound_then = record {
    world = h.sound.world;
    able = record { programs = h.sound.able.programs; mutators = h.sound.able.mutators; registers = h.sound.able.registers; serials = h.sound.able.serials };
    sound_blocks = begun_filed plan s.allocation h.sound.sound_blocks;
    known = λ number block n lies. h.sound.known number block n ((begun_names s.allocation number block n).0 lies);
    cycle = (
      record { world = h.sound.world; rows = tt },
      refl,
      λ number block n is lies. h.sound.known number block n ((begun_names s.allocation number block n).0 lies),
    );
    earlier = λ e held. elim (contains_cases s.world [] e held) [
      | inl is ↦ subst (λ (x : World). IsEarlier x s.world) is (world_is_earlier s.world h.sound.world)
      | inr nowhere ↦ absurd (nothing_in e nowhere)
    ];
    blocks = λ n tracked other. let has = has_block n (tracked_itself s.world n tracked) other in
        (has.0, has.1, (begun_names s.allocation has.0 has.1 n).1 has.2);
  }
    where
      has_block : (n : Name) → IsTracked s.world [] n → n ≢ shared_name → HasBlock s.allocation n
      has_block n tracked other = h.sound.blocks n (tracked_fewer s.world (snapshots s.progress) n tracked) other

  -- words and segments represent it

  stands_then : StandsFor segments words (cycle_begun s.allocation)
  stands_then = st.marked.stands words (cycle_begun s.allocation) (prepared_shown laws.prepares laws.begins script c s h at)

  heap_as : (g : HoldsAtStop plan t words segments (ends_of (seen c)) (seen c).weaks) × (g.places ≡ h.heap.places)
  heap_as =
      let begun = laws.stop plan s words c.heap.segments (ends_of (seen c)) (seen c).weaks h.heap in
      let on = laws.marked plan (cycle_started s) words (all_prepared c.heap.segments) segments (ends_of (seen c)) (seen c).weaks begun.0 (layout_is ∙
      h.kept.layout) stands_then in
      (record { places = on.0.places; all = on.0.all; holds = on.0.holds; listed = on.0.listed }, on.1 ∙ begun.1)

  heap : (g : HoldsAtStop plan t words segments (ends_of (seen next)) (seen next).weaks) × (g.places ≡ h.heap.places)
  heap = subst (λ (es : List MutatorEnd). (g : HoldsAtStop plan t words segments es (seen c).weaks) × (g.places ≡ h.heap.places)) (sym ends_same) heap_as

  -- the cycle marks

  epoch_is : next_epoch c ≡ epoch_of (s.begun + 1)
  epoch_is = ap (λ (n : ℕ). epoch_of (n + 1)) h.matches.begun

  marked_then : HasMarked (all_prepared c.heap.segments) segments (blank (epoch_of (s.begun + 1)) (most_blocks c.heap.segments.layout)) mk.marker 0
  marked_then = rw epoch_is at st.marked

  begun_then : HasBegun (all_prepared c.heap.segments) (epoch_of (s.begun + 1)) mk.sweeper
  begun_then = subst (λ (n : ℕ). HasBegun (all_prepared c.heap.segments) n mk.sweeper) epoch_is st.sweeper

  notes : HasNotes k mk.sweeper
  notes = laws.noted k words (all_prepared c.heap.segments) (epoch_of (s.begun + 1)) mk.sweeper
      (prepared_shown laws.prepares laws.begins script c s h at) no_wait h.sound.sound_blocks.once refl begun_then

  left_then : AreLeft segments mk.sweeper
  left_then = laws.left (all_prepared c.heap.segments) segments mk.sweeper
      (laws.waits (all_prepared c.heap.segments) segments words words (cycle_begun s.allocation)
      (prepared_shown laws.prepares laws.begins script c s h at) stands_then) layout_is begun_then.left

  is_marking : (places : List Place) → places ≡ h.heap.places → IsMarking k t (seen next) places
  is_marking places same_places =
      let o : Opening = snapshot_opening laws.prepares laws.begins script c s h at in
      let tied = st.tied o (beginning laws.prepares laws.begins script c s h at) in
      let m = laws.marks plan s words c.heap.segments (seen next) (ends_of (seen c)) (seen c).weaks o (most_blocks c.heap.segments.layout) h.heap
      h.sound.world st.sound refl refl refl marked_then tied
      queue_room_then (λ n mutator e. (rest_then n mutator e).entries) st.from_is notes.noted (begun_then.had, begun_then.freed) in
      rw same_places (record {
        core = m.core;
        machine = m.machine;
        tied = m.tied;
        remembered = m.remembered;
        low = m.low;
        room = m.room;
        queue_room = m.queue_room;
        from_is = m.from_is;
        noted = m.noted;
        nothing_listed = m.nothing_listed;
      })

  in_pace : IsPacedAtStop script.config.quota k t (seen next)
  in_pace = laws.pace script.config.quota k t (seen next) refl (let pace = st.marked.scanned.pace in omega (arith, pace))

  pub leads : StandsAt script next t
  leads = record {
    kept = still_kept;
    sound = sound_then;
    course = laws.course s no_wait;
    matches = record { phase = refl; begun = ap (λ (n : ℕ). n + 1) h.matches.begun; collect = refl; full = h.matches.full };
    heap = heap.0;
    nurseries = subst (λ (y : List Place × List Nursery). AreNurseries plan y.0 s.world y.1) (λ i. (sym heap.1 i, sym nurseries_same i)) h.nurseries;
    empty = subst AreEmpty (sym nurseries_same) h.empty;
    rest = rest_then;
    cycle = (is_marking heap.0.places heap.1, in_pace);
    sweeper = (record { notes = notes; left = left_then }, begun_then.swept, begun_then.had, begun_then.freed);
    named = named_begun plan c.heap.names s.allocation h.named;
  }

pub starting_leads : BeginningLaws → StartingLeads
starting_leads laws script old new s limits h idle started =
    let st = started.starts in
    let words : started.marked.heap.words ≡ old.heap.words = words_same started.marked.heap.words old.heap.words st.words.1 h.kept.has_words st.words.0 in
    let before : started.marked ≡ record old { heap = record old.heap { segments = started.marked.heap.segments }; mutators = started.marked.mutators } =
    cc (st.rest, words) in
    let next : new ≡ record old {
      heap = record old.heap { segments = started.marked.heap.segments };
      mutators = started.marked.mutators;
      cycle = record old.cycle { progress = doing.Marking started.marking; begun = old.cycle.begun + 1; collect = false };
    } =
    cc (started.is, before) in
    rw next (leads laws script old s h idle started.marked started.marking st)
