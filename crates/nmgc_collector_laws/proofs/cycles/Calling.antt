-- The marker's calls, over the laws of the machine.
use Rattle.nmgc_collector_laws.proofs.Vocabulary.{ℕ, ◌≡◌, ◌++◌, true, List, [], ◌∷◌, length, map, refl, sym, ap, subst, ◌∙◌, inr, flat_map, length-map, World, Core, names_of, newest_first, opening_in, Place, map_item, AllocState, rows_in, places_then, Opening, Scan, View, IsMarking, Marks, marks_of, marks_after, now, AreAt, AreRemembered, IsTied, MutatorSeen, Cycle, next_cycle, cycle_started, AreOfBlocks, TiesAgree, IsTiedByPlaces, with_places, all_prepared, all_entries, SnapshotIsMarking, RoundIsMarking, AddIsMarking, gathered, with_rows, core_facts}
use Rattle.nmgc_collector_laws.proofs.{cycles.Beginning.opening_rests, cycles.Keeping.add_keeps_marking, cycles.Keeping.cycle_is_marking, cycles.Keeping.round_keeps_marking, cycles.Pacing.marks_found, cycles.Preparing.stop_begins, cycles.RoundHeap.marked_holds, cycles.Taking.machine_takes, cycles.Taking.places_mark, cycles.Tying.MarksLaw, cycles.Tying.EndsLaw, cycles.Tying.core_snapshot, cycles.Tying.heap_of_blocks, cycles.Tying.round_ends}

pub snapshot_is_marking : MarksLaw → TiesAgree → SnapshotIsMarking
snapshot_is_marking law agree layout s words old new ends weaks o spare h world sound_new same places snapshot marked tied queue_room nothing from
    noted nothing_listed =
    let c : Cycle = next_cycle s in
    let core : Core = opening_in newest_first s.world in
    let k = stop_begins layout s words old ends weaks h in
    let m = marked_holds layout (cycle_started s) words (all_prepared old) new.segments ends weaks k.0 (marked.layout ∙
    h.holds.layout_is) (marked.stands words _ k.0.holds.stands) in
    let rest = opening_rests s world in
    let blocks : AreOfBlocks o c new.segments words (cycle_started s).allocation core =
    heap_of_blocks law layout (cycle_started s) words new.segments ends weaks c s.world core o m.0 sound_new rest.sound rest.machine same
    (places ∙ sym k.1 ∙ sym m.1) snapshot in
    let here : IsTiedByPlaces o (marks_of core) new.segments new.marker =
    subst (λ (w : World). IsTiedByPlaces o (marks_of (opening_in newest_first w)) new.segments new.marker) snapshot tied in
    let by_blocks : IsTied c (cycle_started s).allocation new.segments o.places new.marker core =
    (agree o c new.segments words (cycle_started s).allocation core new.marker blocks).1 (marked.scanned.epoch, here) in
    cycle_is_marking s new h.places world (rw places at by_blocks) marked.room queue_room nothing from noted nothing_listed

pub round_is_marking : MarksLaw → TiesAgree → EndsLaw → RoundIsMarking
round_is_marking law agree ending layout c s t old new before after ends weaks o scans seats mutators done core scanned h f sound interval was same
    places snapshot world allocation g goes marks tied left entries =
    let v : View = gathered o scans seats in
    let d : Cycle = with_rows c (rows_in f.events) in
    let of_view : IsTiedByPlaces v.opening (marks_after v.opening v.scans) new.segments new.marker =
    subst (λ (y : Opening × List Scan). IsTiedByPlaces y.0 (marks_after y.0 y.1) new.segments new.marker) (λ i. (
      sym g.opening i,
      sym g.scans_are i,
    )) tied in
    let by_blocks : IsTied d s.allocation new.segments (places_then o f.born) new.marker core =
    round_ends law agree ending layout s before after old.segments new.segments ends weaks c o v mutators core new.marker h f sound
    (marks.layout ∙ h.holds.layout_is) (marks.stands before s.allocation h.holds.stands) interval goes g.all.0 g.opening same places snapshot
    (marks.scanned.epoch ∙ was.tied.epoch) of_view in (
      round_keeps_marking c s t old new o after v f mutators core (subst (λ (l : List Place). IsMarking c s old l) (sym places) was) goes world
          (subst (λ (a : AllocState). IsTied d a new.segments (places_then o f.born) new.marker core) (sym allocation) by_blocks)
          marks.room (marks.layout ∙ h.holds.layout_is ∙ sym same) left entries,
      marks_found d (now o f.events).world core goes.machine goes.found new.marker by_blocks.count,
    )

-- all entries, as one list
entries_flat : (mutators : List MutatorSeen) → flat_map (λ (own : List ℕ). own) (map (λ (m : MutatorSeen). m.entries) mutators) ≡ all_entries mutators
entries_flat [] = refl
entries_flat (m ∷ mutators) = ap (λ (l : List ℕ). m.entries ++ l) (entries_flat mutators)

pub add_is_marking : MarksLaw → TiesAgree → AddIsMarking
add_is_marking law agree layout c s old new words ends weaks h sound sound_new interval many was marked added left nothing =
    let core : Core = was.core in
    let o : Opening = record { layout = layout; marking = true; core = core; places = h.places; hands = [] } in
    let snapshot : core.snapshot ≡ c.snapshot = core_snapshot c s.world core interval was.machine in
    let before : AreOfBlocks o c old.segments words s.allocation core =
    heap_of_blocks law layout s words old.segments ends weaks c s.world core o h sound interval was.machine refl refl snapshot in
    let by_places = (agree o c old.segments words s.allocation core old.marker before).0 was.tied in
    let entries : List (List ℕ) = map (λ (m : MutatorSeen). m.entries) old.mutators in
    let lists = (core_facts c s.world core interval was.machine).base.pushed_lists in
    let same_many : length core.world.mutators ≡ length s.world.mutators = ap (λ (w : World). length w.mutators) was.machine.world_is in
    let long : length entries ≡ length core.pushed = length-map old.mutators (λ (m : MutatorSeen). m.entries) ∙ many ∙ sym same_many ∙ sym lists in
    let taken = machine_takes c s.world core h.places entries interval.world was.machine long (λ k own e.
    let m = map_item (λ (m : MutatorSeen). m.entries) old.mutators k own e in
    subst (λ (l : List ℕ). AreRemembered c h.places l (names_of core.pushed k)) (sym m.2) (was.remembered k m.0 m.1)) in
    let after : Core = taken.1 in
    let at : AreAt h.places (all_entries old.mutators) taken.0 = subst (λ (l : List ℕ). AreAt h.places l taken.0) (entries_flat old.mutators) taken.2 in
    let marks : with_places o (marks_of core) (all_entries old.mutators) ≡ marks_of after =
    cc (places_mark o (marks_of core) (all_entries old.mutators) taken.0 (λ p q d e is. h.holds.represents.one p q d e (inr is)) at, snapshot, taken.3.marks) in
    let then : IsTiedByPlaces o (marks_of after) new.segments new.marker =
    subst (λ (m : Marks). IsTiedByPlaces o m new.segments new.marker) marks (added o (marks_of core) by_places.1) in
    let k = marked_holds layout s words old.segments new.segments ends weaks h (marked.layout ∙
    h.holds.layout_is) (marked.stands words s.allocation h.holds.stands) in
    let blocks : AreOfBlocks o c new.segments words s.allocation after =
    heap_of_blocks law layout s words new.segments ends weaks c s.world after o k.0 sound_new interval taken.3.machine refl (sym k.1) snapshot in
    let tied : IsTied c s.allocation new.segments h.places new.marker after =
    (agree o c new.segments words s.allocation after new.marker blocks).1 (marked.scanned.epoch ∙ by_places.0, then) in
    add_keeps_marking c s old new h.places taken.0 after was taken.3 tied marked.room left nothing
