-- After its promotion the collector represents the promoted state: the heap, and the cycle in progress.
use Rattle.nmgc_cycle.proofs.Vocabulary.{ℕ, ◌≡◌, ◌≢◌, ◌⊎◌, ◌<◌, ◌≤◌, ◌+◌, ◌*◌, List, [], ◌∷◌, length, arith, refl, sym, ap, subst, ◌∙◌, inl, inr, Some, None, slice_get, Contains, IsSome, Name, shared_name, World, node_of, contains_head, is_some_of, contains_map, young_base, Layout, MIN_BLOCK_WORDS, nursery_place, AllocState, Cells, LiesIn, HasBlock, cells, name_in, block_place, Moved, new_place, old_place, Place, IsTracked, settled_cases, settled_comes, IsFor, length-map, Mutator, promoted_by, Script, EachMutator, HoldsInCycle, IsPacedAfterRound, weak_count, HoldsAtStop, snapshots, ends_of, IsInCycle, IsSoundState, LieKnown, WaitKnown, Plan, State, Progress, idle, marking, sweeping, plan_of, layout_of, Cycle, SameWait, all_placing_waits, promotions_stay, places_filed, known_then, tracked_known, HasLeft, HasPlaced, KeepsWaiting, place_of, places_of, Death, AreNamed, entry_of, named_at, named_noted, Collector, IsWellFormed, Sweeps, seen, words_in, sweeper_in, cycle_in, died, StandsPromoted, IsPacedPromoted, HasPromotionLaws, HasListed, HasPromoted, moves_of, moved_names, of_places, Receiver, IsLined, young_fresh, slice_index}
use Rattle.nmgc_collector_laws.specs.Worked as worked
use Rattle.nmgc_collector_laws.specs.Stays as beside
use Rattle.nmgc_cycle.proofs.stops.AfterPromotion as after
use Rattle.nmgc_cycle.proofs.stops.Begins.{Begins}

-- waiting segments have their known names, since no name is placed in one of them
still_known : (c : Cycle) (a b : AllocState) → SameWait a b → WaitKnown c a → WaitKnown c b
still_known c a b same known number block name is lies =
    let e = same.back number is in
    known number block name (ap (λ (x : Cells). x.state) (sym e) ∙ is) (ap (λ (x : Cells). name_in x block) (sym e) ∙ lies)

cycle_then : (q : Progress) (w : World) (a b : AllocState) → SameWait a b → IsInCycle q w a → IsInCycle q w b
cycle_then idle w a b same h = tt
cycle_then (marking c) w a b same h = (h.0, h.1, still_known c a b same h.2)
cycle_then (sweeping c closed) w a b same h = (h.0, still_known c a b same h.1)

module _ (laws : HasPromotionLaws) (script : Script) (old new : Collector) (kept : IsWellFormed script old) (b : Begins script old)
    (p : HasPromoted old new) where
  abbrev plan : Plan
  plan = plan_of script

  abbrev s : State
  s = b.state

  -- the state after the promotion
  abbrev pub t : State
  t = after.promoted script old new kept b p

  -- the collector, by the promotion's changes
  abbrev mid : Collector
  mid = record old { heap = new.heap; mutators = new.mutators }

  same_waits : SameWait s.allocation t.allocation
  same_waits = all_placing_waits old.heap.segments.layout s.world s.allocation t.allocation (moved_names new) (after.placed script old new kept b p).1

  placed : HasPlaced old.heap.segments new.heap.segments (seen old).words (words_in new.heap.words) s.allocation t.allocation
  placed = record {
    layout = old.heap.segments.layout;
    world = s.world;
    names = moved_names new;
    stood = b.stands;
    stands = (after.placed script old new kept b p).2;
    places_each = (after.placed script old new kept b p).1;
    marks = p.marks;
  }

  keeps : KeepsWaiting old.heap.segments new.heap.segments s.allocation t.allocation
  keeps = record {
    waits = laws.waits old.heap.segments new.heap.segments (seen old).words (words_in new.heap.words) s.allocation t.allocation placed;
    marks = λ number block. ap (λ (marks : List ℕ). slice_index marks block) (p.marks.marks number);
    names = λ number is. ap (λ (x : Cells). x.names) (same_waits.same number is);
    count =
        let before = kept.sound.count in
        let now = p.sound.count in
        let same = ap (λ (l : Layout). l.segments) p.layout in
        omega (arith, before, now, same);
    layout = p.layout;
  }

  -- no moved object is in a snapshot
  not_of_snapshot : (c : Cycle) → snapshots s.progress ≡ c.snapshot ∷ [] → (m : Moved) → Contains (moves_of new) m → IsSome (node_of c.snapshot m.name) → ⊥
  not_of_snapshot c spoken m there known =
      let heap = after.settled_heap script old new kept b p in
      let was : Contains b.places (old_place m) = heap.moved m there in
      let later : Contains (snapshots s.progress) c.snapshot = subst (λ (l : List World). Contains l c.snapshot) (sym spoken) (contains_head c.snapshot []) in
      let low = b.stopped.round.outside c.snapshot (old_place m) later was known in
      let none : node_of b.began m.name ≡ None = (heap.promoted.sound m.name (contains_map (λ (x : Moved). x.name) (moves_of new) m there)).0.0 in
      let high = (b.stopped.round.young (old_place m) was).1 none in
      omega (arith, low, high)

  -- the list of weak pointers is the heap's
  module _ (l : HasListed old new) where
    abbrev heap : HoldsAtStop (layout_of plan) t (words_in new.heap.words) new.heap.segments (ends_of (seen new)) (seen new).weaks
    heap = after.heap script old new kept b p laws.back l

    -- the state is sound

    lies_known : LieKnown s.world t.allocation
    lies_known number block name lies =
        let place : Place = record { at = block_place (layout_of plan) number (cells t.allocation number).class block; name = name } in
        (heap.holds.represents.named place ((heap.all place).1 (inr (record { number = number; block = block; lies = lies; at = refl })))).known

    has_block : (name : Name) → IsTracked s.world (snapshots s.progress) name → name ≢ shared_name → HasBlock t.allocation name
    has_block name tracked other =
        let there : IsSome (node_of s.world name) =
        tracked_known s.world (snapshots s.progress) b.sound.world (known_then s.world s.allocation s.progress b.sound.cycle) name tracked in
        let node = is_some_of (node_of s.world name) there in
        let at = heap.holds.represents.tracked name node.0 tracked node.1 in
        let place : Place = record { at = at.at; name = name } in
        elim ((heap.all place).0 at.there) [
          | inl g ↦ absurd (other (ap (λ (q : Place). q.name) g))
          | inr x ↦ (x.number, x.block, x.lies)
        ]

    sound : IsSoundState plan t
    sound =
        let promotes = after.promotes script old new kept b p in
        record {
          world = b.sound.world;
          able = record {
            programs = b.sound.able.programs;
            mutators = b.sound.able.mutators;
            registers = b.sound.able.registers;
            serials = b.sound.able.serials;
          };
          sound_blocks = places_filed (layout_of plan) s.world s.allocation t.allocation promotes.names b.sound.world promotes.places
              promotes.lists.ordered (λ n c. young_fresh b.began s.allocation b.sound.known n (promotes.lists.sound n c).0.0) b.sound.sound_blocks;
          known = lies_known;
          cycle = cycle_then s.progress s.world s.allocation t.allocation same_waits b.sound.cycle;
          earlier = b.sound.earlier;
          blocks = has_block;
        }

    -- the cycle in progress

    was_promoted : (c : Cycle) → snapshots s.progress ≡ c.snapshot ∷ [] →
        beside.HasPromoted c (after.at_stop script old new kept b p) old.heap.segments new.heap.segments (seen old).words (words_in new.heap.words)
        (worked.registers_of new.mutators.items) (worked.queues_of new.mutators.items) (moves_of new) s.allocation t.allocation
    was_promoted c later = record {
      later_is = later;
      round = b.stopped.round;
      known = b.sound.known;
      sound = kept.sound;
      sound_after = p.sound;
      layout_is = p.layout;
      stood = b.stands;
      stands = (after.placed script old new kept b p).2;
      places_each = (after.placed script old new kept b p).1;
      marks = p.marks;
      is_settled = after.settled_heap script old new kept b p;
    }

    -- the deaths of the last closing are the same
    cycle_same : (seen mid).cycle ≡ (seen old).cycle
    cycle_same = ap (λ (deaths : List Death). cycle_in old.cycle.progress (died deaths)) l.deaths

    -- a listed weak pointer of the snapshot was listed before
    was_listed : (c : Cycle) → snapshots s.progress ≡ c.snapshot ∷ [] → (q : Place) → Contains (places_of new.heap.weaks.list) q →
        IsSome (node_of c.snapshot q.name) → Contains (places_of old.heap.weaks.list) q
    was_listed c spoken q there known =
        let x = of_places new.heap.weaks.list q there in
        elim (l.from x.0 x.1) [
          | inl was ↦ subst (λ (y : Place). Contains (places_of old.heap.weaks.list) y) x.2 (contains_map place_of old.heap.weaks.list x.0 was)
          | inr m ↦
              let name : q.name ≡ m.0.name = sym (ap (λ (y : Place). y.name) x.2) ∙ m.2 in
              absurd (not_of_snapshot c spoken m.0 m.1 (subst (λ (n : Name). IsSome (node_of c.snapshot n)) name known))
        ]

    -- so the queues have room for all possible deaths
    left_of : (c : Cycle) → snapshots s.progress ≡ c.snapshot ∷ [] →
        EachMutator (seen old) (λ m mutator. weak_count c.snapshot m (seen old).weaks ≤ mutator.queue.spare) → HasLeft c (seen old) (seen mid)
    left_of c spoken room = record {
      cycle = cycle_same;
      sweeper = refl;
      queue_room = λ m mutator e.
          let x = after.same_spare script old new kept b p m mutator e in
          let fewer = laws.fewer c.snapshot m (seen old).weaks (seen new).weaks (after.listed script old new kept b p laws.back l).ordered
          (was_listed c spoken) in
          let before = room m x.0 x.1 in
          let spare = x.2 in
          omega (arith, fewer, before, spare);
    }

    cycle : (q : Progress) → snapshots s.progress ≡ snapshots q → IsInCycle q s.world s.allocation →
        ((k : Cycle) → q ≡ marking k → k.from + 1 ≤ s.number) →
        HoldsInCycle (λ (k : Cycle). IsPacedAfterRound script.config.quota k s (seen old)) q s (seen old) b.places →
        HoldsInCycle (λ (k : Cycle). IsPacedPromoted script.config.quota k t (seen mid)) q t (seen mid) heap.places
    cycle idle spoken is later h = laws.settled s.begun old.heap.segments new.heap.segments (seen old).words (words_in new.heap.words) s.allocation
        t.allocation placed h
    cycle (marking c) spoken is later h = (
      laws.marking c s (seen old) (seen mid) (after.at_stop script old new kept b p) (seen old).words (words_in new.heap.words)
          (worked.registers_of new.mutators.items) (worked.queues_of new.mutators.items) (moves_of new) t.allocation is.0 refl h.0
          (was_promoted c spoken) refl (left_of c spoken h.0.queue_room)
          (after.remembers script old new kept b p),
      record {
        paced = record { scanned = h.1.scanned; most = h.1.most; some = h.1.some; quota_or_done = h.1.quota_or_done; empty = h.1.empty; found = h.1.found };
        later = later c refl;
      },
    )
    cycle (sweeping c closed) spoken is later h = (
      rw cycle_same (laws.sweeping c closed old.heap.segments new.heap.segments (seen old).words (words_in new.heap.words) s.allocation t.allocation (seen old).cycle
          (seen old).sweeper placed h.0),
      laws.settled s.begun old.heap.segments new.heap.segments (seen old).words (words_in new.heap.words) s.allocation t.allocation placed h.1,
    )

    sweeper : (q : Progress) → Sweeps q s old → Sweeps q t mid
    sweeper idle h = tt
    sweeper (marking k) h = (
      record { notes = h.0.notes; left = laws.left old.heap.segments new.heap.segments (sweeper_in old.cycle.progress) keeps.waits p.layout h.0.left },
      h.1,
      h.2,
      h.3,
    )
    sweeper (sweeping k closed) h =
        let work = laws.work k closed (seen old).words (words_in new.heap.words) s.allocation t.allocation old.heap.segments new.heap.segments (seen old).cycle
        (sweeper_in old.cycle.progress) h.1 h.0 (after.placed script old new kept b p).2 keeps in (
          work.1,
          rw cycle_same work.0,
        )

    -- moved objects were noted, and the rest has its entries

    -- no moved object is g
    moved_other : (m : Moved) → Contains (moves_of new) m → m.name ≢ shared_name
    moved_other m there =
        (young_fresh b.began s.allocation b.sound.known m.name
        ((after.settled_heap script old new kept b p).promoted.sound m.name (contains_map (λ (x : Moved). x.name) (moves_of new) m there)).0.0).1

    moved_lies : (m : Moved) → Contains (moves_of new) m → (number : ℕ) × (block : ℕ) × LiesIn t.allocation number block m.name ×
        (m.to ≡ block_place new.heap.segments.layout number (cells t.allocation number).class block)
    moved_lies m there = elim (((after.reported script old new kept b p laws.back l).1 (new_place m)).0
        (settled_comes (young_base new.heap.segments) (moves_of new) b.places m there)) [
          | inl g ↦ absurd (moved_other m there (ap (λ (q : Place). q.name) g))
          | inr x ↦ (x.number, x.block, x.lies, x.at)
        ]

    same_base : young_base new.heap.segments ≡ nursery_place (layout_of plan) 0
    same_base = ap (λ (y : Layout). nursery_place y 0) (after.layout_is script old new kept b p)

    -- an old address in a segment has its entry
    old_named : (q : Place) → Contains b.places q → q.at < young_base new.heap.segments → q.name ≢ shared_name → slice_get old.heap.names (entry_of q.at) ≡
        Some q.name
    old_named q there low other = elim (b.low q there (let e = same_base in omega (arith, low, e))) [
      | inl g ↦ absurd (other (ap (λ (x : Place). x.name) g))
      | inr x ↦ ap (λ (at : ℕ). slice_get old.heap.names (entry_of at)) x.at ∙ b.named x.number x.block q.name x.lies
    ]

    came : (number block : ℕ) (name : Name) → LiesIn t.allocation number block name →
        ((m : Moved) × Contains (moves_of new) m × (m.to ≡ block_place new.heap.segments.layout number (cells t.allocation number).class block)) ⊎
        (named_at new.heap.segments.layout old.heap.names number (cells t.allocation number).class block ≡ Some name)
    came number block name lies =
        let q : Place = record { at = block_place new.heap.segments.layout number (cells t.allocation number).class block; name = name } in
        let there = ((after.reported script old new kept b p laws.back l).1 q).1 (inr (record { number = number; block = block; lies = lies; at = refl })) in
        elim (settled_cases (young_base new.heap.segments) (moves_of new) b.places q there) [
          | inl x ↦ inl (x.0, x.1, sym (ap (λ (y : Place). y.at) x.2))
          | inr x ↦ inr (old_named q x.0 x.1 (λ g. sound.sound_blocks.shared number block (subst (λ (n : Name). LiesIn t.allocation number block n) g lies)))
        ]

    named_then : AreNamed (layout_of plan) new.heap.names t.allocation
    named_then = subst (λ (y : Layout).
        AreNamed y new.heap.names t.allocation) (after.layout_is script old new kept b p)
        (named_noted new.heap.segments (words_in new.heap.words) t.allocation (moves_of new) old.heap.names new.heap.names p.sound
        (after.placed script old new kept b p).2 p.noted moved_lies came)

    -- the invariant

    still_kept : IsWellFormed script mid
    still_kept = record {
      layout = after.layout_is script old new kept b p;
      sound = p.sound;
      lists = subst (λ (l : Layout). IsFor l new.heap.promotion) (sym p.layout) p.lists;
      entries = subst (λ (y : Layout × ℕ). y.0.segments * y.0.words ≤ MIN_BLOCK_WORDS * y.1) (λ i. (sym p.layout i, sym p.noted.count i)) kept.entries;
      has_words = p.has_words;
      count = ap (λ (l : List Mutator). length l) p.held ∙ length-map old.mutators.items (promoted_by p.forward) ∙ kept.count;
      own = λ k m e. let own = (after.own script old new kept b p k m e).0 in
          record {
            number = own.number;
            layout = own.layout;
            whole = own.whole;
            no_replies = own.no_replies;
            line = subst (λ (l : List Receiver). IsLined l k m.sender) (ap (λ (y : Collector). y.inbox) p.rest) own.line;
          };
      inbox = kept.inbox;
      positions_are = kept.positions_are;
      positions = kept.positions;
      no_ends = kept.no_ends;
      room = kept.room;
      workers = kept.workers;
    }

    stands_mid : StandsPromoted script mid t
    stands_mid = record {
      kept = still_kept;
      sound = sound;
      course = promotions_stay (layout_of plan) b.began s t (after.count script old new kept b p) (after.promotes script old new kept b p) b.course;
      matches = record { phase = b.matches.phase; begun = b.matches.begun; collect = b.matches.collect; full = b.matches.full };
      heap = heap;
      nurseries = after.are_nurseries script old new kept b p;
      empty = after.are_empty script old new kept b p;
      rest = after.rest script old new kept b p;
      cycle = cycle s.progress refl b.sound.cycle b.later b.cycle;
      sweeper = sweeper s.progress b.sweeper;
      named = named_then;
    }

    pub promoted_stands : StandsPromoted script new t
    promoted_stands = subst (λ (x : Collector). StandsPromoted script x t) (sym p.rest) stands_mid
