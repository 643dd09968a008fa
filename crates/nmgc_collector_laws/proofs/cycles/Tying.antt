-- A marker's tie by places and by blocks, at a stop.
use Rattle.nmgc_collector_laws.proofs.Vocabulary.{◌≡◌, ℕ, List, [], ◌∷◌, map, true, sym, ap, subst, ◌∙◌, inl, inr, Contains, IsSome, Name, shared_name, World, node_of, IsSound, Layout, Facts, Core, snapshot_theorem, Contains-append_left, Segments, block_place, IsSegments, StandsFor, cells, Place, shared_place, MutatorEnd, Mutator, rows_in, IsFinished, places_then, marks_of, place_of, now, collecting, Opening, Seen, whole, interval_of, Cycle, HoldsAtStop, AreAt, IsCoreOf, IsTied, epoch_of, MarkerSeen, AreOfBlocks, TiesAgree, AreApart, IsTiedByPlaces, marks_seen, with_rows, GoesOn, CoreHasSnapshot, RoundBeginsTied, places_apart, core_facts, newest_first}
use Rattle.nmgc_run_spec.specs.Run.{State}
use Rattle.nmgc_collector_laws.proofs.cycles.RoundHeap.{marked_holds}

-- places of names, among more places
pub at_more : (places more : List Place) (ats : List ℕ) (names : List Name) → ((p : Place) → Contains places p → Contains more p) →
    AreAt places ats names → AreAt more ats names
at_more places more [] [] all h = tt
at_more places more [] (name ∷ names) all h = h
at_more places more (at ∷ ats) [] all h = h
at_more places more (at ∷ ats) (name ∷ names) all h = (all (record { at = at; name = name }) h.0, at_more places more ats names all h.1)

pub core_snapshot : CoreHasSnapshot
core_snapshot c w core sound m = ((snapshot_theorem newest_first c.snapshot sound.world m.events c.rows core m.runs).before m.open_yet).snapshot

-- the law of marks
abbrev pub MarksLaw : Type 0
MarksLaw = (core : Core) → Facts core → ((name : Name) → Contains core.marked name → IsSome (node_of core.snapshot name)) × Contains core.marked shared_name

-- if words and segments represent a heap at a stop, an opening with its places has the blocks as places, whatever was scanned
-- since. So the two ties are one (`TiesAgree`): as a round begins and ends, after the promotion, and as a cycle begins
pub heap_of_blocks : MarksLaw →
    (layout : Layout) (s : State) (words : List ℕ) (segments : Segments) (ends : List MutatorEnd) (weaks : List Place) (c : Cycle) (w : World)
    (core : Core) (o : Opening) → (h : HoldsAtStop layout s words segments ends weaks) → IsSegments segments → IsSound (interval_of c) →
    IsCoreOf c w core → o.layout ≡ layout → o.places ≡ h.places → o.core.snapshot ≡ c.snapshot →
    AreOfBlocks o c segments words s.allocation core
heap_of_blocks law layout s words segments ends weaks c w core o h segments_are sound machine same places snapshot =
    let marked = law core (core_facts c w core sound machine) in
    let here : (p : Place) → Contains h.places p → Contains o.places p = λ p d. subst (λ (l : List Place). Contains l p) (sym places) d in
    record {
      sound = segments_are;
      stands = h.holds.stands;
      layout = h.holds.layout_is ∙ sym same;
      cycle = sym snapshot;
      apart = subst (λ (y : Layout × List Place). AreApart y.0 y.1) (λ i. (
        sym same i,
        sym places i,
      )) (places_apart layout _ h.places s.world words h.holds.represents);
      shared = here shared_place ((h.all shared_place).1 (inl (λ i. shared_place)));
      blocks = λ number block name lies. here _ ((h.all _).1 (inr (record {
        number = number;
        block = block;
        lies = lies;
        at = ap (λ (l : Layout). block_place l number (cells s.allocation number).class block) same;
      })));
      named = λ p d known. rw same ((h.all p).0 (rw places at d));
      marked = λ name d. subst (λ (x : World). IsSome (node_of x name)) (core_snapshot c w core sound machine ∙ sym snapshot) (marked.0 name d);
      shared_marked = marked.1;
    }

-- a round, from the tie by blocks to the tie by places and back

-- the marker's laws
abbrev pub BeginsLaw : Type 0
BeginsLaw = (o : Opening) (s : Segments) (marker : MarkerSeen) → IsTiedByPlaces o (marks_of o.core) s marker →
    IsTiedByPlaces o (marks_seen (collecting (whole o))) s marker

abbrev pub EndsLaw : Type 0
EndsLaw = (o : Opening) (words : List ℕ) (v : Seen) (s : Segments) (marker : MarkerSeen) (h : IsFinished o words v) → v.collects ≡ true →
    v.opening ≡ o → IsTiedByPlaces v.opening (marks_seen v) s marker → IsTiedByPlaces o (marks_of (now o h.events)) s marker

pub round_begins : MarksLaw → TiesAgree → BeginsLaw → RoundBeginsTied
round_begins law agree begins layout s words segments ends weaks c o marker h sound interval machine same places tied =
    let blocks : AreOfBlocks o c segments words s.allocation o.core =
    heap_of_blocks law layout s words segments ends weaks c s.world o.core o h sound interval machine same places
    (core_snapshot c s.world o.core interval machine) in
    begins o segments marker ((agree o c segments words s.allocation o.core marker blocks).0 tied).1

-- at its end, a marker tied by places to the view of all seats, after marks were set, is tied to the machine as it goes on
pub round_ends : MarksLaw → TiesAgree → EndsLaw →
    (layout : Layout) (s : State) (before after : List ℕ) (old new : Segments) (ends : List MutatorEnd) (weaks : List Place) (c : Cycle)
    (o : Opening) (v : Seen) (mutators : List Mutator) (core : Core) (marker : MarkerSeen) (h : HoldsAtStop layout s before old ends weaks)
    (f : IsFinished o after v) → IsSegments new → new.layout ≡ layout → StandsFor new before s.allocation
    → IsSound (interval_of (with_rows c (rows_in f.events))) → GoesOn c o after v f mutators core → v.collects ≡ true → v.opening ≡ o →
    o.layout ≡ layout → o.places ≡ h.places → o.core.snapshot ≡ c.snapshot → marker.epoch ≡ epoch_of c.number →
    IsTiedByPlaces v.opening (marks_seen v) new marker
    → IsTied (with_rows c (rows_in f.events)) s.allocation new (places_then o f.born) marker core
round_ends law agree ending layout s before after old new ends weaks c o v mutators core marker h f sound same_layout stands interval goes on
    opening same places snapshot epoch tied =
    let d : Cycle = with_rows c (rows_in f.events) in
    let k = marked_holds layout s before old new ends weaks h same_layout stands in
    let then : IsTiedByPlaces o (marks_of core) new marker = rw goes.marks (ending o after v new marker f on opening tied) in
    let blocks : AreOfBlocks o d new before s.allocation core =
    heap_of_blocks law layout s before new ends weaks d (now o f.events).world core o k.0 sound interval goes.machine same (places ∙ sym k.1) snapshot in
    let t : IsTied d s.allocation new o.places marker core = (agree o d new before s.allocation core marker blocks).1 (epoch, then) in
    record {
      epoch = t.epoch;
      snapshot = t.snapshot;
      marks = t.marks;
      order = t.order;
      queue = at_more o.places (places_then o f.born) marker.queue _ (λ p e. Contains-append_left o.places (map place_of f.born) p e) t.queue;
      fresh = t.fresh;
      count = t.count;
    }
