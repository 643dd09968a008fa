-- Segments whose marks are carried over late, as contracts see them.
use Rattle.nmgc_alloc.proofs.Vocabulary.{ℕ, ◌≡◌, ◌≢◌, ◌*◌, ◌/◌, ◌<◌, ◌≤◌, ◌⊎◌, ◌↔◌, ◌∙◌, Bool, refl, ap, subst, sym, zero, suc, inl, inr, arith, map, length, length-map, IsTrue, IfSome, Segment, State, Free, Current, Active, Filled, InSnapshot, IsMarked, IsEpoch, carried, block_size, block_count, mark_of, is, nth, nth-map, Segments, HasNumber, block_place, filled_count, carried_over, carried_in, IsMember, IsSegments, IsOwn, IsCurrent, IsBlockAt}
use Rattle.std.specs.Prelude.{Option, Some, None, IfNone, if◌then◌else◌}
use Rattle.nmgc_segment.specs.{declared.state.State.TheVariants.Sweeping, laws.Segments.mark-map, laws.Segments.carried_is}
use Rattle.nmgc_object.specs.declared.size.TheConstants.{MIN_BLOCK_WORDS}
use Rattle.nmgc_alloc.specs.{AllocState.carried_all, AllocState.seen_carried, laws.Blocks.carried_turns}
use Rattle.nmgc_alloc.proofs.{CycleStepLaws.quiet_carried, CycleStepLaws.carried_still, TallyLaws.count-map}

exists_back : (epoch : ℕ) (s : Segments) (n : ℕ) → HasNumber (carried_all epoch s) n → HasNumber s n
exists_back epoch s n h = let same = length-map s.segments (carried_over epoch) in omega (arith, same, h)

-- the invariant of all segments
own_back : (epoch : ℕ) → IsEpoch epoch → (s : Segments) (m c n : ℕ) → IsOwn (carried_all epoch s) m c n → IsOwn s m c n
own_back epoch e s m c n own =
    let there : HasNumber s n = exists_back epoch s n own.exists in
    record {
      exists = there;
      is = (quiet_carried s.layout epoch e).current (nth s.segments n) m c (subst (λ (x : Segment). IsCurrent m c x)
          (nth-map (carried_over epoch) s.segments n there) own.is);
    }

pub all_sound : (epoch : ℕ) → IsEpoch epoch → (s : Segments) → IsSegments s → IsSegments (carried_all epoch s)
all_sound epoch e s h = record {
  layout = h.layout;
  count = length-map s.segments (carried_over epoch) ∙ h.count;
  members = λ n exists.
      let there : HasNumber s n = exists_back epoch s n exists in
      subst (λ (x : Segment). IsMember s.layout x) (sym (nth-map (carried_over epoch) s.segments n there))
      ((quiet_carried s.layout epoch e).member (nth s.segments n) (h.members n there));
  one_current = λ m c a b own other. h.one_current m c a b (own_back epoch e s m c a own) (own_back epoch e s m c b other);
  fresh =
      let few = h.fresh in
      let same : filled_count (map (carried_over epoch) s.segments) ≡ filled_count s.segments =
      count-map (λ (x : Segment). is x.state Filled) (λ (x : Segment). is x.state Filled) (carried_over epoch) s.segments
      (λ x. carried_still epoch x x.state) in
      omega (arith, few, same);
}

pub sound_seen : (late : Option ℕ) (s : Segments) → IfSome late IsEpoch → IsSegments s → IsSegments (seen_carried late s)
sound_seen None s e h = h
sound_seen (Some epoch) s e h = all_sound epoch e s h

-- the snapshot
pub snapshot_seen : (late : Option ℕ) (s : Segments) (n b : ℕ) (r : Bool) → IfSome late IsEpoch → IsSegments s → HasNumber s n →
    IsTrue r ↔ InSnapshot (nth s.segments n) b → IsTrue r ↔ InSnapshot (nth (seen_carried late s).segments n) b
snapshot_seen None s n b r e h there known = known
snapshot_seen (Some epoch) s n b r e h there known =
    let same = (carried_turns epoch e).same (nth s.segments n) (h.members n there).sound b in
    subst (λ (x : Segment). IsTrue r ↔ InSnapshot x b) (sym (nth-map (carried_over epoch) s.segments n there))
    ((λ t. same.1 (known.0 t)), (λ k. known.1 (same.0 k)))

-- the same blocks begin at an address
state_kept : (epoch : ℕ) (x : Segment) (state : State) → (carried_in state epoch x).state ≡ x.state
state_kept epoch x Free = refl
state_kept epoch x (Current m) = refl
state_kept epoch x Active = refl
state_kept epoch x Filled = refl
state_kept epoch x Sweeping = refl

blocks_kept : (epoch : ℕ) → IsEpoch epoch → (x : Segment) → block_count (carried_over epoch x) ≡ block_count x
blocks_kept epoch e x =
    let t = carried_turns epoch e in
    ap (λ (c : ℕ). (MIN_BLOCK_WORDS * length (carried_over epoch x).marks) / block_size c) (t.class x) ∙
    ap (λ (k : ℕ). (MIN_BLOCK_WORDS * k) / block_size x.class) (t.marks x)

block_back : (epoch : ℕ) → IsEpoch epoch → (s : Segments) (n b at : ℕ) → IsBlockAt (carried_all epoch s) n b at → IsBlockAt s n b at
block_back epoch e s n b at h =
    let there : HasNumber s n = exists_back epoch s n h.exists in
    let x = nth s.segments n in
    let same = nth-map (carried_over epoch) s.segments n there in
    record {
      exists = there;
      used = λ free. h.used (ap (λ (y : Segment). y.state) same ∙ state_kept epoch x x.state ∙ free);
      within = subst (λ (k : ℕ). b < k) (ap block_count same ∙ blocks_kept epoch e x) h.within;
      place = h.place ∙ ap (λ (y : Segment). block_place s.layout n y.class b) same ∙
          ap (λ (c : ℕ). block_place s.layout n c b) ((carried_turns epoch e).class x);
    }

pub block_unseen : (late : Option ℕ) (s : Segments) (n b at : ℕ) → IfSome late IsEpoch → IsBlockAt (seen_carried late s) n b at → IsBlockAt s n b at
block_unseen None s n b at e h = h
block_unseen (Some epoch) s n b at e h = block_back epoch e s n b at h

pub none_then : {X : Type 0} {P Q : Type 0} (r : Option X) → IfNone r P → (P → Q) → IfNone r Q
none_then None h f = f h
none_then (Some x) h f = tt

-- a mark byte that is carried over to one epoch doesn't become another one
other_byte : (late epoch mark : ℕ) → IsEpoch late → IsEpoch epoch → epoch ≢ late → carried late mark ≡ epoch → ⊥
other_byte late epoch zero l e other h = omega (arith, h, e)
other_byte late epoch (suc mark) l e other h = other (sym h ∙ (carried_is late (suc mark) l).1 (λ z. omega (arith, z)))

pub other_mark : (late epoch : ℕ) (x : Segment) (b : ℕ) → IsEpoch late → IsEpoch epoch → epoch ≢ late →
    IsMarked (record x { marks = map (carried late) x.marks }) epoch b → ⊥
other_mark late epoch x b l e other h = other_byte late epoch (mark_of x b) l e other (sym (mark-map (carried late) x.marks b refl) ∙ h)

-- the same in a segment that is neither free nor to be swept
pub other_state : (late epoch : ℕ) (x : Segment) (b : ℕ) → IsEpoch late → IsEpoch epoch → epoch ≢ late → (state : State) → x.state ≡ state →
    (((m : ℕ) × (state ≡ Current m)) ⊎ ((state ≡ Active) ⊎ (state ≡ Filled))) → IsMarked (carried_over late x) epoch b → ⊥
other_state late epoch x b l e other state is which marked =
    elim which [
      | inl m ↦ other_mark late epoch x b l e other (subst (λ (s : State). IsMarked (carried_in s late x) epoch b) (is ∙ m.1) marked)
      | inr rest ↦ elim rest [
        | inl a ↦ other_mark late epoch x b l e other (subst (λ (s : State). IsMarked (carried_in s late x) epoch b) (is ∙ a) marked)
        | inr f ↦ other_mark late epoch x b l e other (subst (λ (s : State). IsMarked (carried_in s late x) epoch b) (is ∙ f) marked)
      ]
    ]

-- a segment that contracts see exists
pub exists_unseen : (late : Option ℕ) (s : Segments) (n : ℕ) → HasNumber (seen_carried late s) n → HasNumber s n
exists_unseen None s n h = h
exists_unseen (Some epoch) s n h = exists_back epoch s n h
