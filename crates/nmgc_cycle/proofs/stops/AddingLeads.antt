-- After adding, the collector represents the same state, and nothing is remembered.
use Rattle.nmgc_cycle.proofs.Vocabulary.{ℕ, ◌≡◌, List, length, map, refl, sym, ap, subst, ◌∙◌, Some, Global, ◌≤◌, arith, All, slice_get, Vec, length-map, slice_get_within, Layout, Nursery, StandsFor, Segments, IsSegments, World, map_item, AreEmpty, MutatorEnd, IsFor, Mutator, numbers, Receiver, Script, AreNurseries, EachMutator, HoldsInCycle, IsEmptied, IsMarking, weak_count, HoldsAtStop, HasAllRegisters, HasRoomToMark, MarkerSeen, MutatorSeen, end_of, ends_of, nurseries_of, State, Progress, idle, marking, sweeping, phase_of, plan_of, layout_of, Cycle, AddIsMarking, ClosingIsSoon, ClosingIsPaced, HasLeft, PaceAtStop, MarkedWait, LeftStays, HaveEntries, Collector, Marking, Doing, AddsTo, CanAdd, HasAdded, HasTaken, remembered_by, IsLined, HasForgotten, HaveForgotten, IsWellFormed, IsOwn, Sweeps, seen, seen_mutator, marker_in, phase_in, StandsPromoted, StandsWithin, IsPacedPromoted, IsPacedWithin, AddingLeads, item}
use Rattle.nmgc_journal.specs.declared.report.Phase.TheVariants as phase
use Rattle.nmgc_cycle.specs.declared.progress.Progress.TheVariants as doing
use Rattle.nmgc_collector_laws.specs.Closes.{WaitingIsPaced}
use Rattle.nmgc_cycle.proofs.{lists.Mapped.same_maps, cycles.Pacing.paced_within, lists.RootLists.seen_at}

-- the laws that adding uses
pub record HasAddingLaws : Type 0 where
  pub marking : AddIsMarking
  pub soon : ClosingIsSoon
  pub paced : ClosingIsPaced
  pub waiting : WaitingIsPaced
  pub pace : PaceAtStop
  pub waits : MarkedWait
  pub left : LeftStays

-- of mutators that forgot, only the view of their remembered entries changed
seen_forgot : {B : Type 0} (f : MutatorSeen → B) → ((m n : Mutator) → HasForgotten m n → f (seen_mutator n) ≡ f (seen_mutator m)) →
    (old new : List Mutator) → HaveForgotten old new → map f (map seen_mutator new) ≡ map f (map seen_mutator old)
seen_forgot f same old new h = same_maps f f (map seen_mutator new) (map seen_mutator old) (length-map new seen_mutator ∙ h.count ∙
    sym (length-map old seen_mutator)) (λ k a b e g.
    let x = map_item seen_mutator new k a e in
    let y = map_item seen_mutator old k b g in
    ap f x.2 ∙ same y.0 x.0 (h.each k y.0 x.0 y.1 x.1) ∙ sym (ap f y.2))

-- any adding, apart from the cycle
module _ (script : Script) (old : Collector) (s : State) (h : StandsPromoted script old s) (segments : Segments) (p : Doing) (inbox : List Receiver)
    (mutators : Vec Mutator Global)
    (inbox_is : length inbox ≡ length old.inbox)
    (lines : (k : ℕ) (n : Mutator) → slice_get mutators.items k ≡ Some n → IsLined inbox k n.sender)
    (forgot : HaveForgotten old.mutators.items mutators.items)
    (phases : phase_in p ≡ phase_in old.cycle.progress)
    (layout : segments.layout ≡ old.heap.segments.layout)
    (sound : IsSegments segments)
    (stands : StandsFor segments (seen old).words s.allocation) where
  abbrev then : Collector
  then = record old { heap = record old.heap { segments = segments }; cycle = record old.cycle { progress = p }; inbox = inbox; mutators = mutators }

  ends_are : ends_of (seen then) ≡ ends_of (seen old)
  ends_are = seen_forgot end_of (λ m n f. ap (λ (x : Mutator). end_of (seen_mutator x)) f.rest) old.mutators.items mutators.items forgot

  nurseries_are : nurseries_of (seen then) ≡ nurseries_of (seen old)
  nurseries_are = seen_forgot (λ (m : MutatorSeen). m.nursery) (λ m n f. ap (λ (x : Mutator). x.nursery) f.rest) old.mutators.items mutators.items forgot

  -- each mutator is an earlier mutator that forgot
  one_forgot : (k : ℕ) (m : Mutator) → slice_get mutators.items k ≡ Some m → (was : Mutator) × (slice_get old.mutators.items k ≡ Some was) × HasForgotten was m
  one_forgot k m e =
      let within = slice_get_within mutators.items k m e in
      let count = forgot.count in
      let x = item old.mutators.items k (omega (arith, within, count)) in
      (x.0, x.1, forgot.each k x.0 m x.1 e)

  pub at_rest : (k : ℕ) (m : MutatorSeen) → slice_get (seen then).mutators k ≡ Some m → IsEmptied m
  at_rest k m e =
      let x = map_item seen_mutator mutators.items k m e in
      let was = one_forgot k x.0 x.1 in
      let left = h.rest k (seen_mutator was.0) (seen_at old.mutators.items k was.0 was.1) in
      let f = was.2 in
      subst IsEmptied (sym x.2) (record {
        recorded = ap (λ (y : Mutator). numbers y.recorded.items) f.rest ∙ left.recorded;
        young_weaks = ap (λ (y : Mutator). numbers y.young_weaks.items) f.rest ∙ left.young_weaks;
        finalised = ap (λ (y : Mutator). numbers y.finalised.items) f.rest ∙ left.finalised;
        entries = f.nothing;
      })

  -- the queues' room is the same
  pub room_left : (snapshot : World) → EachMutator (seen old) (λ m mutator. weak_count snapshot m (seen old).weaks ≤ mutator.queue.spare) →
      EachMutator (seen then) (λ m mutator. weak_count snapshot m (seen then).weaks ≤ mutator.queue.spare)
  room_left snapshot room k m e =
      let x = map_item seen_mutator mutators.items k m e in
      let was = one_forgot k x.0 x.1 in
      let had : weak_count snapshot k (seen old).weaks ≤ was.0.queue.spare = room k (seen_mutator was.0) (seen_at old.mutators.items k was.0 was.1) in
      let f = was.2 in
      rw x.2 (rw f.rest had)

  -- their number is the same
  pub many : length mutators.items ≡ length old.mutators.items
  many = forgot.count

  own : (k : ℕ) (m : Mutator) → slice_get mutators.items k ≡ Some m → IsOwn then k m
  own k m e =
      let was = one_forgot k m e in
      let o = h.kept.own k was.0 was.1 in
      let f = was.2 in
      rw f.rest (record {
        number = o.number;
        layout = o.layout ∙ sym layout;
        whole = record { layout = o.whole.layout; number = o.whole.number; size = o.whole.size };
        no_replies = o.no_replies;
        line = lines k m e;
      })

  kept : IsWellFormed script then
  kept = record {
    layout = layout ∙ h.kept.layout;
    sound = sound;
    lists = subst (λ (l : Layout). IsFor l old.heap.promotion) (sym layout) h.kept.lists;
    entries = subst (λ (l : Layout). HaveEntries l old.heap.names) (sym layout) h.kept.entries;
    has_words = h.kept.has_words;
    count = many ∙ h.kept.count;
    own = own;
    inbox = inbox_is ∙ h.kept.inbox;
    positions_are = h.kept.positions_are;
    positions = h.kept.positions;
    no_ends = h.kept.no_ends;
    room = h.kept.room;
    workers = h.kept.workers;
  }

  abbrev heap : HoldsAtStop (layout_of (plan_of script)) s (seen then).words segments (ends_of (seen then)) (seen then).weaks
  heap = record {
    places = h.heap.places;
    all = h.heap.all;
    holds = record {
      fit = h.heap.holds.fit;
      represents = h.heap.holds.represents;
      registers = subst (λ (es : List MutatorEnd). All HasAllRegisters es) (sym ends_are) h.heap.holds.registers;
      roots = rw ends_are h.heap.holds.roots;
      layout_is = layout ∙ h.heap.holds.layout_is;
      stands = stands;
    };
    listed = h.heap.listed;
  }

  pub stands_within : HoldsInCycle (λ (k : Cycle). IsPacedWithin script.config.quota k s (seen then)) s.progress s (seen then) h.heap.places →
      Sweeps s.progress s then → StandsWithin script then s
  stands_within cycle sweeper = record {
    kept = kept;
    sound = h.sound;
    course = h.course;
    matches = record { phase = phases ∙ h.matches.phase; begun = h.matches.begun; collect = h.matches.collect; full = h.matches.full };
    heap = heap;
    nurseries = subst (λ (ns : List Nursery). AreNurseries (layout_of (plan_of script)) h.heap.places s.world ns) (sym nurseries_are) h.nurseries;
    empty = subst AreEmpty (sym nurseries_are) h.empty;
    rest = at_rest;
    cycle = cycle;
    sweeper = sweeper;
    named = h.named;
  }

-- if no cycle marks

unmarked_cycle : (script : Script) (old : Collector) (s : State) (inbox : List Receiver) (mutators : Vec Mutator Global) (q : Progress) →
    ((k : Cycle) → q ≡ marking k → ⊥) → (places : _) → HoldsInCycle (λ (k : Cycle).
    IsPacedPromoted script.config.quota k s (seen old)) q s (seen old) places →
    HoldsInCycle (λ (k : Cycle). IsPacedWithin script.config.quota k s (seen (record old {
      inbox = inbox;
      mutators = mutators;
    }))) q s (seen (record old { inbox = inbox; mutators = mutators })) places
unmarked_cycle script old s inbox mutators idle never places h = h
unmarked_cycle script old s inbox mutators (marking k) never places h = absurd (never k refl)
unmarked_cycle script old s inbox mutators (sweeping k closed) never places h = h

unmarked_sweeper : (old : Collector) (s : State) (inbox : List Receiver) (mutators : Vec Mutator Global) (q : Progress) →
    ((k : Cycle) → q ≡ marking k → ⊥) → Sweeps q s old → Sweeps q s (record old { inbox = inbox; mutators = mutators })
unmarked_sweeper old s inbox mutators idle never h = tt
unmarked_sweeper old s inbox mutators (marking k) never h = absurd (never k refl)
unmarked_sweeper old s inbox mutators (sweeping k closed) never h = h

module _ (script : Script) (old new : Collector) (s : State) (h : StandsPromoted script old s) (taken : HasTaken old new) where
  unmarked : ((k : Cycle) → s.progress ≡ marking k → ⊥) → new.cycle.progress ≡ old.cycle.progress → new.heap.segments ≡ old.heap.segments →
      StandsWithin script new s
  unmarked never progress segments =
      let is : new ≡ record old { inbox = new.inbox; mutators = new.mutators } =
      taken.rest
      ∙ ap (λ (g : Segments). record old {
        heap = record old.heap { segments = g };
        cycle = record old.cycle { progress = new.cycle.progress };
        inbox = new.inbox;
        mutators = new.mutators;
      }) segments
      ∙ ap (λ (d : Doing). record old { cycle = record old.cycle { progress = d }; inbox = new.inbox; mutators = new.mutators }) progress in
      subst (λ (c : Collector). StandsWithin script c s) (sym is)
      (stands_within script old s h old.heap.segments old.cycle.progress new.inbox new.mutators taken.inbox taken.lines taken.mutators refl refl h.kept.sound
      h.heap.holds.stands
      (unmarked_cycle script old s new.inbox new.mutators s.progress never h.heap.places h.cycle)
      (unmarked_sweeper old s new.inbox new.mutators s.progress never h.sweeper))

-- if a cycle marks

module _ (laws : HasAddingLaws) (script : Script) (was : Collector) (r : State) (m : Marking) (k : Cycle)
    (h : StandsPromoted script (record was { cycle = record was.cycle { progress = doing.Marking m } }) (record r { progress = marking k }))
    (segments : Segments) (marker : MarkerSeen) (inbox : List Receiver) (mutators : Vec Mutator Global)
    (inbox_is : length inbox ≡ length was.inbox)
    (lines : (k : ℕ) (n : Mutator) → slice_get mutators.items k ≡ Some n → IsLined inbox k n.sender)
    (forgot : HaveForgotten was.mutators.items mutators.items)
    (added : HasAdded (remembered_by was.mutators.items) was.heap.segments segments m.marker marker)
    (sound : IsSegments segments) where
  abbrev old : Collector
  old = record was { cycle = record was.cycle { progress = doing.Marking m } }

  abbrev s : State
  s = record r { progress = marking k }

  abbrev c : Collector
  c = record was {
    heap = record was.heap { segments = segments };
    cycle = record was.cycle { progress = doing.Marking (record m { marker = marker }) };
    inbox = inbox;
    mutators = mutators;
  }

  stands : StandsFor segments (seen old).words s.allocation
  stands = added.marked.stands (seen old).words s.allocation h.heap.holds.stands

  marks : IsMarking k s (seen c) h.heap.places
  marks =
      let left : HasLeft k (seen old) (seen c) = record {
        cycle = refl;
        sweeper = refl;
        queue_room = room_left script old s h segments (doing.Marking (record m {
          marker =
              marker;
        })) inbox mutators inbox_is lines forgot refl added.marked.layout sound stands k.snapshot h.cycle.0.queue_room;
      } in
      let count : length (seen old).mutators ≡ length s.world.mutators = length-map was.mutators.items seen_mutator ∙ h.kept.count ∙
      sym h.sound.able.mutators in
      laws.marking (layout_of (plan_of script)) k s (seen old) (seen c) (seen old).words (ends_of (seen old)) (seen old).weaks h.heap h.kept.sound
      sound h.sound.cycle.0 count h.cycle.0 added.marked added.tied left (λ n mutator e.
      (at_rest script old s h segments (doing.Marking (record m {
        marker =
            marker;
      })) inbox mutators inbox_is lines forgot refl added.marked.layout sound stands n mutator e).entries)

  paced : IsPacedWithin script.config.quota k s (seen c)
  paced = paced_within laws.soon laws.paced laws.waiting laws.pace script.config.quota k s (seen old) (seen c) s.allocation h.heap.places h.cycle.0.core
      h.sound.cycle.0 h.cycle.0.machine h.cycle.0.tied h.cycle.1.later h.cycle.1.paced added.marked.scanned.pace added.marked.scanned.grows refl

  marked : StandsWithin script c s
  marked =
      let waits = laws.waits was.heap.segments segments (seen old).words (seen old).words s.allocation h.heap.holds.stands stands in
      stands_within script old s h segments (doing.Marking (record m {
        marker =
            marker;
      })) inbox mutators inbox_is lines forgot refl added.marked.layout sound stands
      (marks, paced) (
        record { notes = h.sweeper.0.notes; left = laws.left was.heap.segments segments m.sweeper waits added.marked.layout h.sweeper.0.left },
        h.sweeper.1,
        h.sweeper.2,
        h.sweeper.3,
      )

module _ (laws : HasAddingLaws) (script : Script) (old new : Collector) (s : State) (h : StandsPromoted script old s) (taken : HasTaken old new) where
  by_case : (p : Doing) (q : Progress) → old.cycle.progress ≡ p → s.progress ≡ q → phase_in p ≡ phase_of q →
      AddsTo (remembered_by old.mutators.items) old.heap.segments new.heap.segments p new.cycle.progress → StandsWithin script new s
  by_case doing.Idle idle at is e step = unmarked script old new s h taken (λ k marks. let bad : idle ≡ marking k = sym is ∙ marks in cc) (step.0 ∙
      sym at) step.1
  by_case doing.Idle (marking k) at is e step = absurd (let bad : phase.Idle ≡ phase.Marking = e in cc)
  by_case doing.Idle (sweeping k closed) at is e step = absurd (let bad : phase.Idle ≡ phase.Sweeping = e in cc)
  by_case (doing.Marking m) idle at is e step = absurd (let bad : phase.Marking ≡ phase.Idle = e in cc)
  by_case (doing.Marking m) (marking k) at is e step =
      let own : StandsPromoted script (record old { cycle = record old.cycle { progress = doing.Marking m } }) (record s { progress = marking k }) =
      rw (← at) (subst (λ (q : Progress). StandsPromoted script old (record s { progress = q })) is h) in
      let then = marked laws script old s m k own new.heap.segments step.0 new.inbox new.mutators taken.inbox taken.lines taken.mutators step.2 step.3 in
      let same : new ≡ record old {
        heap = record old.heap { segments = new.heap.segments };
        cycle = record old.cycle { progress = doing.Marking (record m { marker = step.0 }) };
        inbox = new.inbox;
        mutators = new.mutators;
      } = cc (taken.rest, step.1) in
      rw same (rw is then)
  by_case (doing.Marking m) (sweeping k closed) at is e step = absurd (let bad : phase.Marking ≡ phase.Sweeping = e in cc)
  by_case (doing.Sweeping w) idle at is e step = absurd (let bad : phase.Sweeping ≡ phase.Idle = e in cc)
  by_case (doing.Sweeping w) (marking k) at is e step = absurd (let bad : phase.Sweeping ≡ phase.Marking = e in cc)
  by_case (doing.Sweeping w) (sweeping k closed) at is e step =
      unmarked script old new s h taken (λ r marks. let bad : sweeping k closed ≡ marking r = sym is ∙ marks in cc) (step.0 ∙ sym at) step.1

pub adding_leads : HasAddingLaws → AddingLeads
adding_leads laws script old new s limits h taken =
    let phases : phase_in old.cycle.progress ≡ phase_of s.progress = h.matches.phase in
    by_case laws script old new s h taken old.cycle.progress s.progress refl refl phases taken.adds

-- after the promotion a marker has room for the remembered entries
pub can_add : (script : Script) (c : Collector) (s : State) → StandsPromoted script c s → CanAdd c.heap.segments c.cycle.progress
can_add script c s h = by c.cycle.progress s.progress refl refl h.matches.phase
  where
    by : (p : Doing) (q : Progress) → c.cycle.progress ≡ p → s.progress ≡ q → phase_in p ≡ phase_of q → CanAdd c.heap.segments p
    by doing.Idle q at is e = tt
    by (doing.Marking m) idle at is e = absurd (let bad : phase.Marking ≡ phase.Idle = e in cc)
    by (doing.Marking m) (marking k) at is e =
        let cycle = rw is at h.cycle in
        subst (λ (d : Doing). HasRoomToMark c.heap.segments (marker_in d)) at cycle.0.room
    by (doing.Marking m) (sweeping k closed) at is e = absurd (let bad : phase.Marking ≡ phase.Sweeping = e in cc)
    by (doing.Sweeping w) q at is e = tt
