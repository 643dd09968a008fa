-- A cycle is closed and begins to sweep, and a promotion touches no segment that waits.
use Rattle.nmgc_collector_laws.proofs.Vocabulary.{ℕ, ◌≡◌, ◌≢◌, ◌↔◌, ◌<◌, List, [], ◌∷◌, length, map, refl, sym, ap, subst, ◌∙◌, arith, inl, inr, Some, cond, true, false, Bool, Contains, slice_get, get_or-eq_default, cases_lt, length-map, Name, World, Lists, nothing_in, Layout, carried, epoch_of, Segment, IsSegment, IsMarked, mark_of, free_segment, Stands, mark-map, nth, Segments, HasNumber, IsSegments, IsWaiting, AllocState, Cells, IsIn, cells, name_in, StandsFor, carried_in, carried_over, placed_size, nth-map, used_exists, PlacesEach, IsDeadIn, IsKeptIn, IsKeptObject, Cycle, WaitsWhole, Counts, AreSettled, IsSettledByte, IsListedSoFar, IsFreedSoFar, SameWait, all_placing_waits, still_noted, ClosedCycleSweeps, HasPlaced, MarkedWait, PlacedWait, SweepingStays, SettledStays, all_carried, ◌==◌, slice_index}
use Rattle.nmgc_segment.specs.declared.state.State.TheVariants as stands

-- a byte that was carried over is settled
carried_byte : (begun mark : ℕ) → 0 < begun → IsSettledByte begun (carried (epoch_of begun) mark)
carried_byte begun mark some = by (mark == 0) refl
  where
    by : (b : Bool) → (mark == 0) ≡ b → IsSettledByte begun (carried (epoch_of begun) mark)
    by true e = inl (ap (λ (b : Bool). cond b 0 (epoch_of begun)) e)
    by false e = inr (some, ap (λ (b : Bool). cond b 0 (epoch_of begun)) e)

carried_there : (begun : ℕ) (x : Segment) (block : ℕ) → 0 < begun →
    IsSettledByte begun (mark_of (record x { marks = map (carried (epoch_of begun)) x.marks }) block)
carried_there begun x block some =
    subst (IsSettledByte begun) (sym (mark-map (carried (epoch_of begun)) x.marks block refl)) (carried_byte begun (mark_of x block) some)

carried_settled : (begun : ℕ) (x : Segment) (state : Stands) (block : ℕ) → IsSegment x → x.state ≡ state → state ≢ stands.Sweeping → 0 < begun →
    IsSettledByte begun (mark_of (carried_in state (epoch_of begun) x) block)
carried_settled begun x stands.Free block sound is awake some = inl ((sound.free is).unmarked block)
carried_settled begun x (stands.Current m) block sound is awake some = carried_there begun x block some
carried_settled begun x stands.Active block sound is awake some = carried_there begun x block some
carried_settled begun x stands.Filled block sound is awake some = carried_there begun x block some
carried_settled begun x stands.Sweeping block sound is awake some = absurd (awake refl)

-- carrying changes no state
carried_state : (epoch : ℕ) (x : Segment) (state : Stands) → (carried_in state epoch x).state ≡ x.state
carried_state epoch x stands.Free = refl
carried_state epoch x (stands.Current m) = refl
carried_state epoch x stands.Active = refl
carried_state epoch x stands.Filled = refl
carried_state epoch x stands.Sweeping = refl

carried_number : (epoch : ℕ) (segments : Segments) (number : ℕ) → HasNumber (all_carried epoch segments) number → HasNumber segments number
carried_number epoch segments number lt = let long = length-map segments.segments (carried_over epoch) in omega (arith, lt, long)

-- marks that are carried over as a cycle is closed are settled
pub carry_settles : (begun : ℕ) (segments : Segments) → IsSegments segments → 0 < begun → AreSettled begun (all_carried (epoch_of begun) segments)
carry_settles begun segments sound some number block there awake =
    let lt : HasNumber segments number = carried_number (epoch_of begun) segments number there in
    let x : Segment = nth segments.segments number in
    let is : nth (all_carried (epoch_of begun) segments).segments number ≡ carried_over (epoch_of begun) x =
    nth-map (carried_over (epoch_of begun)) segments.segments number lt in
    let not : x.state ≢ stands.Sweeping = λ e. awake (ap (λ (y : Segment). y.state) is ∙ carried_state (epoch_of begun) x x.state ∙ e) in
    rw is (carried_settled begun x x.state block (sound.members number lt).sound refl not some)

-- a segment that waits exists, and represents its cells
waits_there : (s : Segments) (words : List ℕ) (a : AllocState) → StandsFor s words a → (number : ℕ) → IsIn stands.Sweeping (cells a number) →
    HasNumber s number × ((nth s.segments number).state ≡ stands.Sweeping)
waits_there s words a stood number is =
    let low = used_exists a number (λ free. let bad : stands.Sweeping ≡ stands.Free = sym is ∙ free in cc) in
    let many = stood.count in
    let there : HasNumber s number = omega (arith, low, many) in
    (there, sym (stood.shows number there).state ∙ is)

-- carrying leaves a segment that waits as it was
carry_leaves : (epoch : ℕ) (s : Segments) (number : ℕ) → HasNumber s number → (nth s.segments number).state ≡ stands.Sweeping →
    nth (all_carried epoch s).segments number ≡ nth s.segments number
carry_leaves epoch s number lt is = cc (nth-map (carried_over epoch) s.segments number lt, is)

none_freed : (c : Cycle) (allocation : AllocState) → WaitsWhole c allocation → (freed : List Name) → freed ≡ [] → (name : Name) →
    Contains freed name ↔ IsFreedSoFar c allocation name
none_freed c allocation whole freed none name = (
  λ d. absurd (nothing_in name (subst (λ (l : List Name). Contains l name) none d)),
  λ f. absurd (f.3 (whole.all f.0 f.2)),
)

none_had : (c : Cycle) (allocation : AllocState) → WaitsWhole c allocation → (had : List Name) → had ≡ [] → (name : Name) → Contains had name ↔
    IsListedSoFar c allocation name
none_had c allocation whole had none name = (
  λ d. absurd (nothing_in name (subst (λ (l : List Name). Contains l name) none d)),
  λ f. absurd (f.3 (whole.all f.0 f.2)),
)

none_twice : (freed : List Name) → freed ≡ [] → (i j : ℕ) (item : Name) → slice_get freed i ≡ Some item → slice_get freed j ≡ Some item → i ≡ j
none_twice [] none i j item e f = absurd cc
none_twice (x ∷ l) none i j item e f = absurd cc

pub closed_cycle_sweeps : ClosedCycleSweeps
closed_cycle_sweeps c s dead words segments marker cycle sweeper sound stood last whole closed epoch agrees noted no_had none =
    let same : marker.epoch ≡ epoch_of s.begun = epoch ∙ ap (λ (k : ℕ). epoch_of k) last.number_is in
    let begun : 0 < s.begun = let some = last.some in let is = last.number_is in omega (arith, some, is) in (
      record {
        from_is = agrees.from_is;
        closed_is = agrees.closed_is;
        dead = subst (λ (l : List Name). Lists (IsDeadIn c) l) (sym agrees.dead_is) closed.lists;
        kept = subst (λ (k : ℕ). Counts (IsKeptObject c) k) (sym agrees.kept_is) closed.kept;
        noted = noted;
        as_noted = whole.as_noted;
        marked = λ number block name is lies.
            let there = waits_there segments words s.allocation stood number is in
            let unchanged = carry_leaves marker.epoch segments number there.0 there.1 in
            let own : marker.epoch ≡ sweeper.epoch = epoch ∙ sym noted.epoch in
            subst (λ (y : Segment × ℕ). IsMarked y.0 y.1 block ↔ IsKeptIn c name) (λ i. (sym unchanged i, own i)) (closed.exact number block name lies);
        had = none_had c s.allocation whole sweeper.had no_had;
        had_once = none_twice sweeper.had no_had;
        freed = none_freed c s.allocation whole sweeper.freed none;
        freed_once = none_twice sweeper.freed none;
      },
      subst (λ (k : ℕ). AreSettled s.begun (all_carried k segments)) (sym same) (carry_settles s.begun segments sound begun),
    )

-- placing

each_size : (layout : Layout) (w : World) (a b : AllocState) (names : List Name) → PlacesEach layout w a names b → length b.segments ≡ length a.segments
each_size layout w a b [] e = ap (λ (x : AllocState). length x.segments) e
each_size layout w a b (name ∷ names) h = each_size layout w h.0 b names h.2 ∙ placed_size layout a h.0 name.maker h.1.class name h.1.places

module _ (old new : Segments) (words after : List ℕ) (allocation placed : AllocState) (h : HasPlaced old new words after allocation placed) where
  same : SameWait allocation placed
  same = all_placing_waits h.layout h.world allocation placed h.names h.places_each

  number_was : (number : ℕ) → HasNumber new number → HasNumber old number
  number_was number lt =
      let a = h.stood.count in
      let b = h.stands.count in
      let c = each_size h.layout h.world allocation placed h.names h.places_each in
      omega (arith, lt, a, b, c)

  byte_is : (number block : ℕ) → mark_of (nth new.segments number) block ≡ mark_of (nth old.segments number) block
  byte_is number block = ap (λ (l : List ℕ). slice_index l block) (h.marks.marks number)

  settled : (begun : ℕ) → AreSettled begun old → AreSettled begun new
  settled begun was number block there awake =
      let lt = number_was number there in
      let not : (nth old.segments number).state ≢ stands.Sweeping = λ e.
      let is : IsIn stands.Sweeping (cells allocation number) = (h.stood.shows number lt).state ∙ e in
      awake (sym (h.stands.shows number there).state ∙ ap (λ (x : Cells). x.state) (same.same number is) ∙ is)
      in
      subst (IsSettledByte begun) (sym (byte_is number block)) (was number block lt not)

  sweeping_on : (c : Cycle) (name : Name) → IsFreedSoFar c allocation name ↔ IsFreedSoFar c placed name
  sweeping_on c name = (
    λ f. (f.0, f.1, f.2, λ is. f.3 (ap (λ (x : Cells). x.state) (sym (same.back f.0 is)) ∙ is), f.4, f.5),
    λ f. (f.0, f.1, f.2, λ is. f.3 (ap (λ (x : Cells). x.state) (same.same f.0 is) ∙ is), f.4, f.5),
  )

  listing_on : (c : Cycle) (name : Name) → IsListedSoFar c allocation name ↔ IsListedSoFar c placed name
  listing_on c name = (
    λ f. (f.0, f.1, f.2, λ is. f.3 (ap (λ (x : Cells). x.state) (sym (same.back f.0 is)) ∙ is), f.4),
    λ f. (f.0, f.1, f.2, λ is. f.3 (ap (λ (x : Cells). x.state) (same.same f.0 is) ∙ is), f.4),
  )

-- a segment past the last one is free
waits_within : (s : Segments) (number : ℕ) → IsWaiting s number → HasNumber s number
waits_within s number is = elim (cases_lt number (length s.segments)) [
  | inl lt ↦ lt
  | inr past ↦ absurd (let none : nth s.segments number ≡ free_segment 0 = get_or-eq_default s.segments (free_segment 0) past in
      let bad : stands.Free ≡ stands.Sweeping = sym (ap (λ (x : Segment). x.state) none) ∙ is in cc)
]

cell_waits : (s : Segments) (words : List ℕ) (a : AllocState) → StandsFor s words a → (number : ℕ) → IsWaiting s number → IsIn stands.Sweeping (cells a number)
cell_waits s words a stood number is = (stood.shows number (waits_within s number is)).state ∙ is

pub marked_wait : MarkedWait
marked_wait old new words after a stood stands_now number = (
  λ is. (waits_there old words a stood number (cell_waits new after a stands_now number is)).1,
  λ is. (waits_there new after a stands_now number (cell_waits old words a stood number is)).1,
)

pub placed_wait : PlacedWait
placed_wait old new words after allocation placed h number =
    let w = same old new words after allocation placed h in (
      λ is. let at = cell_waits new after placed h.stands number is in
          (waits_there old words allocation h.stood number (ap (λ (x : Cells). x.state) (sym (w.back number at)) ∙ at)).1,
      λ is. let at = cell_waits old words allocation h.stood number is in
          (waits_there new after placed h.stands number (ap (λ (x : Cells). x.state) (w.same number at) ∙ at)).1,
    )

pub settled_stays : SettledStays
settled_stays begun old new words after allocation placed h was = settled old new words after allocation placed h begun was

pub sweeping_stays : SweepingStays
sweeping_stays c closed old new words after allocation placed cycle sweeper h was = record {
  from_is = was.from_is;
  closed_is = was.closed_is;
  dead = was.dead;
  kept = was.kept;
  noted = was.noted;
  as_noted = still_noted c allocation placed (same old new words after allocation placed h) was.as_noted;
  marked = λ number block name is lies.
      let back = (same old new words after allocation placed h).back number is in
      let m = was.marked number block name (ap (λ (x : Cells). x.state) (sym back) ∙ is) (ap (λ (x : Cells). name_in x block) (sym back) ∙ lies) in
      let byte = byte_is old new words after allocation placed h number block in
      (λ marked. m.0 (sym byte ∙ marked), λ kept. byte ∙ m.1 kept);
  had = λ name. let f = was.had name in let on = listing_on old new words after allocation placed h c name in (λ d. on.0 (f.0 d), λ k. f.1 (on.1 k));
  had_once = was.had_once;
  freed = λ name. let f = was.freed name in let on = sweeping_on old new words after allocation placed h c name in (λ d. on.0 (f.0 d), λ k. f.1 (on.1 k));
  freed_once = was.freed_once;
}
