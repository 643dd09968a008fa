-- The collector after the promotion of its stop.
use Rattle.nmgc_cycle.proofs.Vocabulary.{ℕ, ◌≡◌, ◌↔◌, ◌+◌, ◌<◌, List, length, map, arith, refl, sym, ap, subst, ◌∙◌, inl, inr, slice_index_or, Some, Contains, slice_get, get_or-map, length-map, slice_get-get_or, REGISTERS, World, Layout, Nursery, AllocState, StandsFor, Moved, settled, Place, Represents, NoNode, RepresentsRoots, ListsWeaks, map_item, settled_cases, AreEmpty, nursery_at, PlacesEach, Stopped, IsSettled, young_base, moved_of, emptied, Mutator, Script, AreNurseries, HoldsAtStop, FitBlocks, snapshots, registers_of, queues_of, serials_of, IsPlaceAtStop, BlocksArePlaces, Promotes, MutatorSeen, ends_of, nurseries_of, Plan, State, plan_of, layout_of, Collector, CanStop, IsWellFormed, IsOwn, seen, seen_mutator, words_in, HasOnlyEntries, HasListed, HasPromoted, moves_of, moved_names, Receiver, IsLined, remembered}
use Rattle.nmgc_collector_laws.specs.Worked as worked
use Rattle.nmgc_cycle.proofs.{stops.Begins.Begins, stops.Promoted.one_promoted, stops.Promoted.serials_promoted, stops.Promoted.nurseries_promoted, starts.NewStops.stopped_in, lists.RootLists.seen_at, lists.Views.registers_seen, lists.Views.queues_seen, lists.Views.serials_seen, lists.Views.nurseries_seen, lists.Views.whole_seen}

-- a stop may follow, so the collector is well-formed
pub kept_of : (script : Script) (c : Collector) → CanStop script c → IsWellFormed script c
kept_of script c (inl fresh) = fresh.kept
kept_of script c (inr worked) = worked.kept

module _ (script : Script) (old new : Collector) (kept : IsWellFormed script old) (b : Begins script old) (p : HasPromoted old new) where
  abbrev pub plan : Plan
  plan = plan_of script

  abbrev pub at_stop : Stopped
  at_stop = stopped_in b.began b.state b.places (seen old)

  abbrev pub w : World
  w = b.state.world

  -- the settled heap, and the allocation state then
  pub settled_heap : IsSettled at_stop new.heap.segments (words_in new.heap.words) (worked.registers_of new.mutators.items)
      (worked.queues_of new.mutators.items) (moves_of new)
  settled_heap = p.settled at_stop b.stopped

  abbrev pub placed : (a : AllocState) × PlacesEach old.heap.segments.layout w b.state.allocation (moved_names new) a ×
      StandsFor new.heap.segments (words_in new.heap.words) a
  placed = p.places at_stop b.stopped b.state.allocation b.stands

  -- the state after the promotion
  abbrev pub promoted : State
  promoted = record b.state { allocation = placed.0 }

  -- the number of moved objects
  abbrev pub count : ℕ
  count = length new.heap.promotion.moves

  -- their addresses
  abbrev pub places : List Place
  places = settled (young_base new.heap.segments) (moves_of new) b.places

  low : (q : Place) → Contains places q → q.at < young_base new.heap.segments
  low q c = elim (settled_cases (young_base new.heap.segments) (moves_of new) b.places q c) [
    | inl x ↦ subst (λ (r : Place). r.at < young_base new.heap.segments) (sym x.2) (settled_heap.low x.0 x.1)
    | inr x ↦ x.1
  ]

  -- the sizes of the heap are the plan's
  pub layout_is : new.heap.segments.layout ≡ layout_of plan
  layout_is = p.layout ∙ kept.layout

  pub promotes : Promotes (layout_of plan) b.began b.state promoted count
  promotes = record {
    names = moved_names new;
    lists = settled_heap.promoted;
    places = subst (λ (l : Layout). PlacesEach l w b.state.allocation (moved_names new) placed.0) kept.layout placed.1;
    many = sym (length-map (moves_of new) (λ (m : Moved). m.name) ∙ length-map new.heap.promotion.moves moved_of);
    rest = refl;
  }

  -- the mutators

  -- each mutator is whole, and has only its remembered entries left
  pub own : (k : ℕ) (m : Mutator) → slice_get new.mutators.items k ≡ Some m → IsOwn new k m × HasOnlyEntries (seen_mutator m)
  own k m e =
      let was = one_promoted p.forward old.mutators.items new.mutators.items p.held k m e in
      let before = kept.own k was.0 was.1 in
      let size : length (map p.forward was.0.registers) ≡ REGISTERS = length-map was.0.registers p.forward ∙ before.whole.size in
      rw was.2 (
        record {
          number = before.number;
          layout = before.layout ∙ sym p.layout;
          whole = record { layout = before.whole.layout; number = before.whole.number; size = size };
          no_replies = before.no_replies;
          line = subst (λ (l : List Receiver). IsLined l k was.0.sender) (sym (ap (λ (y : Collector). y.inbox) p.rest)) before.line;
        },
        record { recorded = refl; young_weaks = refl; finalised = refl },
      )

  -- the heap: words, segments and roots, and the mutators' registers and queues

  -- the view of each mutator
  pub rest : (k : ℕ) (m : MutatorSeen) → slice_get (seen new).mutators k ≡ Some m → HasOnlyEntries m
  rest k m e = let x = map_item seen_mutator new.mutators.items k m e in subst HasOnlyEntries (sym x.2) (own k x.0 x.1).1

  -- its remembered entries are the same
  pub remembers : (k : ℕ) (m : MutatorSeen) → slice_get (seen new).mutators k ≡ Some m → (before : MutatorSeen) ×
      (slice_get (seen old).mutators k ≡ Some before) × (m.entries ≡ before.entries)
  remembers k m e =
      let x = map_item seen_mutator new.mutators.items k m e in
      let was = one_promoted p.forward old.mutators.items new.mutators.items p.held k x.0 x.1 in
      (seen_mutator was.0, seen_at old.mutators.items k was.0 was.1, ap (λ (y : MutatorSeen). y.entries) x.2 ∙ ap (λ (y : Mutator). remembered y) was.2)

  emptied_are : nurseries_of (seen new) ≡ map emptied (nurseries_of (seen old))
  emptied_are = cc (nurseries_seen new, p.held, nurseries_promoted p.forward old.mutators.items, nurseries_seen old)

  emptied_at : (maker : ℕ) → nursery_at (nurseries_of (seen new)) maker ≡ emptied (nursery_at (nurseries_of (seen old)) maker)
  emptied_at maker = cc (emptied_are, get_or-map emptied (nurseries_of (seen old)) maker (record { base = 0; top = 0; end = 0 }))

  pub are_empty : AreEmpty (nurseries_of (seen new))
  are_empty maker = ap (λ (n : Nursery). n.top) (emptied_at maker) ∙ ap (λ (n : Nursery). n.base) (sym (emptied_at maker))

  base_at : (maker : ℕ) → (nursery_at (nurseries_of (seen new)) maker).base ≡ (nursery_at (nurseries_of (seen old)) maker).base
  base_at maker = ap (λ (n : Nursery). n.base) (emptied_at maker)

  own_nurseries : AreNurseries new.heap.segments.layout places w (nurseries_of (seen new))
  own_nurseries =
      let before : AreNurseries new.heap.segments.layout b.places w (nurseries_of (seen old)) =
      subst (λ (l : Layout). AreNurseries l b.places w (nurseries_of (seen old))) (sym layout_is) b.nurseries in
      record {
        used = record {
          count = ap (λ (ns : List Nursery). length ns) emptied_are ∙ length-map (nurseries_of (seen old)) emptied ∙ before.used.count;
          places_are = λ maker lt. base_at maker ∙ before.used.places_are maker lt;
          tops = λ maker lt. let top = are_empty maker in (omega (arith, top), omega (arith, top));
          used = λ q node c high e. absurd (let l = low q c in omega (arith, l, high));
        };
        ends = λ maker lt.
            let end = ap (λ (n : Nursery). n.end) (emptied_at maker) in
            end ∙ before.ends maker lt ∙ ap (λ (n : ℕ). n + new.heap.segments.layout.nursery) (sym (base_at maker));
      }

  pub are_nurseries : AreNurseries (layout_of plan) places w (nurseries_of (seen new))
  are_nurseries = subst (λ (l : Layout). AreNurseries l places w (nurseries_of (seen new))) layout_is own_nurseries

  -- the roots, as in a report
  pub roots : RepresentsRoots places w (registers_of (ends_of (seen new))) (queues_of (ends_of (seen new))) (serials_of (ends_of (seen new)))
  roots =
      let registers : worked.registers_of new.mutators.items ≡ registers_of (ends_of (seen new)) = sym (registers_seen new) in
      let queues : worked.queues_of new.mutators.items ≡ queues_of (ends_of (seen new)) = sym (queues_seen new) in
      let same : worked.serials_of new.mutators.items ≡ worked.serials_of old.mutators.items =
      ap worked.serials_of p.held ∙ serials_promoted p.forward old.mutators.items in
      let serials : serials_of (ends_of (seen old)) ≡ serials_of (ends_of (seen new)) = sym (serials_seen new ∙ same ∙ sym (serials_seen old)) in
      rw (← serials) (rw (← queues) (rw registers at settled_heap.roots))

  -- the room of a mutator's queue is the same
  pub same_spare : (k : ℕ) (m : MutatorSeen) → slice_get (seen new).mutators k ≡ Some m → (before : MutatorSeen) ×
      (slice_get (seen old).mutators k ≡ Some before) × (m.queue.spare ≡ before.queue.spare)
  same_spare k m e =
      let x = map_item seen_mutator new.mutators.items k m e in
      let was = one_promoted p.forward old.mutators.items new.mutators.items p.held k x.0 x.1 in (
        seen_mutator was.0,
        seen_at old.mutators.items k was.0 was.1,
        ap (λ (y : MutatorSeen). y.queue.spare) x.2 ∙ ap (λ (y : Mutator). y.queue.spare) was.2,
      )

  -- the heap at the stop
  module _ (back : BlocksArePlaces) (l : HasListed old new) where
    pub reported : FitBlocks w placed.0 × ((q : Place) → Contains places q ↔ IsPlaceAtStop new.heap.segments.layout placed.0 q)
    reported = back new.heap.segments.layout (snapshots b.state.progress) places w placed.0 (words_in new.heap.words) new.heap.segments settled_heap.represents
        p.sound refl placed.2 low settled_heap.blocks

    -- exactly the weak pointers that are alive and have a block are listed
    pub listed : ListsWeaks new.heap.segments.layout places w (seen new).weaks
    listed = l.lists at_stop b.stopped b.can_list

    abbrev pub heap : HoldsAtStop (layout_of plan) promoted (words_in new.heap.words) new.heap.segments (ends_of (seen new)) (seen new).weaks
    heap = record {
      places = places;
      all = subst (λ (l : Layout). (q : Place) → Contains places q ↔ IsPlaceAtStop l placed.0 q) layout_is reported.1;
      holds = record {
        fit = reported.0;
        represents = subst (λ (l : Layout). Represents l (snapshots b.state.progress) NoNode places w (words_in new.heap.words)) layout_is
            settled_heap.represents;
        registers = whole_seen new (λ k d lt. (own k (slice_index_or new.mutators.items k d) (slice_get-get_or new.mutators.items k d lt)).0.whole.size);
        roots = roots;
        layout_is = layout_is;
        stands = placed.2;
      };
      listed = subst (λ (y : Layout). ListsWeaks y places w (seen new).weaks) layout_is listed;
    }
