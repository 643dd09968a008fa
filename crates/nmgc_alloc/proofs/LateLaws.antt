-- Segments whose preparation is late, as contracts see them.
use Rattle.nmgc_alloc.proofs.Vocabulary.{ℕ, ◌≡◌, ◌<◌, ◌↔◌, ◌∙◌, Bool, true, false, refl, inl, inr, ap, subst, sym, arith, List, map, set, length-map, length-set, IsTrue, count_by, Segment, State, Free, Current, Active, Filled, InSnapshot, IsSegment, block_count, is, nth, nth-map, each_set, Segments, HasNumber, block_place, sought_count, filled_count, sweeping_none, prepared_state, prepared, begun, seen_late, with_snapshot, prepared_in, prepared_current, prepared_snapshot, IsMember, IsSegments, IsCurrent, IsOwn, CanTake, HasRoom, HasNoneIn, IsBlockAt, IsToMark, marked_if}
use Rattle.std.specs.Prelude.{if◌then◌else◌}
use Rattle.std.proofs.lemmas.List.{map-set}
use Rattle.nmgc_segment.specs.declared.state.State.TheVariants as state
use Rattle.nmgc_alloc.specs.{AllocState.prepared_snap, declared.search.Category.TheVariants.Sweeping}
use Rattle.nmgc_alloc.proofs.{CycleStepLaws.prepared_count, CycleStepLaws.prepared_not_filled, TallyLaws.count-map, TallyLaws.none_mapped}

pub layout_seen : (late : Bool) (s : Segments) → (seen_late late s).layout ≡ s.layout
layout_seen true s = refl
layout_seen false s = refl

pub fresh_seen : (late : Bool) (s : Segments) → (if late then 0 else s.fresh) ≡ (seen_late late s).fresh
fresh_seen true s = refl
fresh_seen false s = refl

pub exists_seen : (late : Bool) (s : Segments) (n : ℕ) → HasNumber s n ↔ HasNumber (seen_late late s) n
exists_seen true s n = let same = length-map s.segments prepared in ((λ h. omega (arith, same, h)), (λ h. omega (arith, same, h)))
exists_seen false s n = ((λ h. h), (λ h. h))

-- a segment that the code reads: only its state and its snapshot may differ from the segment that contracts see
pub raw_seen : (late : Bool) (s : Segments) (n : ℕ) → HasNumber s n → nth s.segments n ≡ record (nth (seen_late late s).segments n) {
  state = (nth s.segments n).state;
  snap = (nth s.segments n).snap;
}
raw_seen true s n h = ap (λ (x : Segment). let y : Segment = record x { state = (nth s.segments n).state; snap = (nth s.segments n).snap } in y)
    (sym (nth-map prepared s.segments n h))
raw_seen false s n h = refl

pub state_seen : (late : Bool) (s : Segments) (n : ℕ) → HasNumber s n →
    (if late then prepared_state (nth s.segments n).state else (nth s.segments n).state) ≡ (nth (seen_late late s).segments n).state
state_seen true s n h = ap (λ (x : Segment). x.state) (sym (nth-map prepared s.segments n h))
state_seen false s n h = refl

-- the counts
free_same : (in_state : State) → is (prepared_state in_state) Free ≡ is in_state Free
free_same Free = refl
free_same (Current m) = refl
free_same Active = refl
free_same Filled = refl
free_same state.Sweeping = refl

pub free_seen : (late : Bool) (s : Segments) → count_by (λ (x : Segment). is x.state Free) s.segments ≡
    count_by (λ (x : Segment). is x.state Free) (seen_late late s).segments
free_seen true s = sym (count-map (λ (x : Segment). is x.state Free) (λ (x : Segment). is x.state Free) prepared s.segments (λ x. free_same x.state))
free_seen false s = refl

pub filled_seen : (late : Bool) (s : Segments) → (if late then 0 else filled_count s.segments) ≡ filled_count (seen_late late s).segments
filled_seen true s = sym (none_mapped (λ (x : Segment). is x.state Filled) prepared s.segments (λ x. prepared_not_filled x.state))
filled_seen false s = refl

pub sweep_seen : (late : Bool) (s : Segments) → (IsTrue late → HasNoneIn state.Sweeping s) →
    (if late then filled_count s.segments else sought_count Sweeping s.segments) ≡ sought_count Sweeping (seen_late late s).segments
sweep_seen true s none =
    let all = prepared_count s.segments in
    let zero : sought_count Sweeping s.segments ≡ 0 = sweeping_none s (none refl) in
    omega (arith, all, zero)
sweep_seen false s none = refl

-- the invariant of all segments
own_back : (s : Segments) (m c n : ℕ) → IsOwn (begun s) m c n → IsOwn s m c n
own_back s m c n own =
    let there : HasNumber s n = (exists_seen true s n).1 own.exists in
    let is : IsCurrent m c (prepared (nth s.segments n)) = subst (λ (x : Segment). IsCurrent m c x) (nth-map prepared s.segments n there) own.is in
    record { exists = there; is = prepared_current (nth s.segments n) (nth s.segments n).state m c is }

pub begun_sound : (s : Segments) → IsSegments s → IsSegments (begun s)
begun_sound s h = record {
  layout = h.layout;
  count = length-map s.segments prepared ∙ h.count;
  members = λ n exists.
      let there : HasNumber s n = (exists_seen true s n).1 exists in
      subst (λ (x : Segment). IsMember s.layout x) (sym (nth-map prepared s.segments n there))
      (prepared_in s.layout (nth s.segments n) (nth s.segments n).state (h.members n there));
  one_current = λ m c a b own other. h.one_current m c a b (own_back s m c a own) (own_back s m c b other);
  fresh = omega arith;
}

pub sound_seen : (late : Bool) (s : Segments) → IsSegments s → IsSegments (seen_late late s)
sound_seen true s h = begun_sound s h
sound_seen false s h = h

-- a state that is neither filled nor waiting stays
keeps : (in_state t : State) → (t ≡ Filled → ⊥) → (t ≡ state.Sweeping → ⊥) → (prepared_state in_state ≡ t) ↔ (in_state ≡ t)
keeps Free t filled waits = ((λ e. e), (λ e. e))
keeps (Current m) t filled waits = ((λ e. e), (λ e. e))
keeps Active t filled waits = ((λ e. e), (λ e. e))
keeps Filled t filled waits = ((λ e. absurd (waits (sym e))), (λ e. absurd (filled (sym e))))
keeps state.Sweeping t filled waits = ((λ e. e), (λ e. e))

keeps_free : (in_state : State) → (prepared_state in_state ≡ Free) ↔ (in_state ≡ Free)
keeps_free in_state = keeps in_state Free (λ e. cc) (λ e. cc)

-- a free segment is seen as free
pub free_back : (late : Bool) (s : Segments) (n : ℕ) → HasNumber s n → (nth s.segments n).state ≡ Free → (nth (seen_late late s).segments n).state ≡ Free
free_back true s n h free = ap (λ (x : Segment). x.state) (nth-map prepared s.segments n h) ∙ (keeps_free (nth s.segments n).state).1 free
free_back false s n h free = free

-- the same segments can take an object
can_take : (m c : ℕ) (x : Segment) → CanTake m c (prepared x) ↔ CanTake m c x
can_take m c x =
    let current = keeps x.state (Current m) (λ e. cc) (λ e. cc) in
    let active = keeps x.state Active (λ e. cc) (λ e. cc) in
    let free = keeps_free x.state in (
      λ h. elim h [
        | inl own ↦ inl ((current.0 own.0.0, own.0.1), own.1)
        | inr open_ ↦ inr (elim open_ [ inl a ↦ inl (active.0 a.0, a.1) | inr f ↦ inr (free.0 f) ])
      ],
      λ h. elim h [
        | inl own ↦ inl ((current.1 own.0.0, own.0.1), own.1)
        | inr open_ ↦ inr (elim open_ [ inl a ↦ inl (active.1 a.0, a.1) | inr f ↦ inr (free.1 f) ])
      ],
    )

pub room_seen : (late : Bool) (s : Segments) (m c : ℕ) → HasRoom s m c ↔ HasRoom (seen_late late s) m c
room_seen true s m c = (
  λ h. (
    h.0,
    (exists_seen true s h.0).0 h.1,
    subst (λ (x : Segment). CanTake m c x) (sym (nth-map prepared s.segments h.0 h.1))
        ((can_take m c (nth s.segments h.0)).1 h.2),
  ),
  λ h.
      let there : HasNumber s h.0 = (exists_seen true s h.0).1 h.1 in
      (h.0, there, (can_take m c (nth s.segments h.0)).0 (subst (λ (x : Segment). CanTake m c x) (nth-map prepared s.segments h.0 there) h.2)),
)
room_seen false s m c = ((λ h. h), (λ h. h))

-- the same blocks begin at an address
pub block_seen : (late : Bool) (s : Segments) (n b at : ℕ) → IsBlockAt s n b at ↔ IsBlockAt (seen_late late s) n b at
block_seen true s n b at = (
  λ h.
      let e = nth-map prepared s.segments n h.exists in
      record {
        exists = (exists_seen true s n).0 h.exists;
        used = λ free. h.used ((keeps_free (nth s.segments n).state).0 (ap (λ (x : Segment). x.state) (sym e) ∙ free));
        within = subst (λ (x : Segment). b < block_count x) (sym e) h.within;
        place = h.place ∙ ap (λ (x : Segment). block_place s.layout n x.class b) (sym e);
      },
  λ h.
      let there : HasNumber s n = (exists_seen true s n).1 h.exists in
      let e = nth-map prepared s.segments n there in
      record {
        exists = there;
        used = λ free. h.used (ap (λ (x : Segment). x.state) e ∙ (keeps_free (nth s.segments n).state).1 free);
        within = subst (λ (x : Segment). b < block_count x) e h.within;
        place = h.place ∙ ap (λ (x : Segment). block_place s.layout n x.class b) e;
      },
)
block_seen false s n b at = ((λ h. h), (λ h. h))

-- the snapshot, and a mark in it
pub snapshot_seen : (late : Bool) (s : Segments) (n b : ℕ) (r : Bool) → IsSegments s → HasNumber s n →
    IsTrue r ↔ InSnapshot (with_snapshot late (nth s.segments n)) b → IsTrue r ↔ InSnapshot (nth (seen_late late s).segments n) b
snapshot_seen true s n b r h there known =
    let same = prepared_snapshot.same (nth s.segments n) (h.members n there).sound b in
    subst (λ (x : Segment). IsTrue r ↔ InSnapshot x b) (sym (nth-map prepared s.segments n there)) ((λ t. same.1 (known.0 t)), (λ k. known.1 (same.0 k)))
snapshot_seen false s n b r h there known = known

pub to_mark_seen : (late : Bool) (s : Segments) (n e b : ℕ) (r : Bool) → IsSegments s → HasNumber s n →
    IsTrue r ↔ IsToMark (with_snapshot late (nth s.segments n)) e b → IsTrue r ↔ IsToMark (nth (seen_late late s).segments n) e b
to_mark_seen true s n e b r h there known =
    let same = prepared_snapshot.same (nth s.segments n) (h.members n there).sound b in
    subst (λ (x : Segment). IsTrue r ↔ IsToMark x e b) (sym (nth-map prepared s.segments n there)) (
      (λ t. let k = known.0 t in (same.1 k.0, k.1)),
      (λ k. known.1 (same.0 k.0, k.1)),
    )
to_mark_seen false s n e b r h there known = known

prepared_again : (x : Segment) (in_state : State) (marks : List ℕ) → (in_state ≡ Free → x.snap ≡ x.next_free) →
    prepared_snap in_state (record x { marks = marks; snap = x.next_free }) ≡ prepared_snap in_state x
prepared_again x Free marks same = sym (same refl)
prepared_again x (Current m) marks same = refl
prepared_again x Active marks same = refl
prepared_again x Filled marks same = refl
prepared_again x state.Sweeping marks same = refl

-- a segment whose snapshot was taken and in which a block was marked, and then prepared: the block is marked after the preparation
marked_prepared : (x : Segment) (r : Bool) (e b : ℕ) → IsSegment x → prepared (marked_if r e b (with_snapshot true x)) ≡ marked_if r e b (prepared x)
marked_prepared x r e b h =
    let marks : List ℕ = if r then set x.marks b e else x.marks in
    let free = λ (f : x.state ≡ Free). let none = (h.free f).next_free in let low = h.snap in let same : x.snap ≡ x.next_free = omega (arith, none, low) in same in
    ap (λ (k : ℕ). let y : Segment = record x { state = prepared_state x.state; marks = marks; snap = k } in y) (prepared_again x x.state marks free)

pub marked_seen : (late : Bool) (s t : Segments) (n e b : ℕ) (r : Bool) → IsSegments s → HasNumber s n →
    t ≡ record s { segments = set s.segments n (marked_if r e b (with_snapshot late (nth s.segments n))) } → seen_late late t ≡
    record (seen_late late s) { segments = set (seen_late late s).segments n (marked_if r e b (nth (seen_late late s).segments n)) }
marked_seen true s t n e b r h there is =
    let x = nth s.segments n in
    let y = marked_if r e b (with_snapshot true x) in
    ap begun is ∙
    ap (λ (l : List Segment). let u : Segments = record s { segments = l; fresh = 0 } in u) (map-set prepared s.segments n y ∙
    ap (λ (z : Segment). set (map prepared s.segments) n z) (marked_prepared x r e b (h.members n there).sound ∙
    ap (marked_if r e b) (sym (nth-map prepared s.segments n there))))
marked_seen false s t n e b r h there is = is

-- and still none waits
pub none_marked : (late : Bool) (s t : Segments) (n e b : ℕ) (r : Bool) → HasNumber s n → (IsTrue late → HasNoneIn state.Sweeping s) →
    t ≡ record s { segments = set s.segments n (marked_if r e b (with_snapshot late (nth s.segments n))) } → IsTrue late → HasNoneIn state.Sweeping t
none_marked late s t n e b r there none is l =
    let y = marked_if r e b (with_snapshot late (nth s.segments n)) in
    let after : Segments = record s { segments = set s.segments n y } in
    let still : HasNoneIn state.Sweeping after = λ i exists waits.
    let was : HasNumber s i = let same = length-set s.segments n y in omega (arith, same, exists) in
    each_set (λ _ x. x.state ≡ state.Sweeping → ⊥) s.segments n y there (none l n there) i (none l i was) waits in
    subst (λ (u : Segments). HasNoneIn state.Sweeping u) (sym is) still
