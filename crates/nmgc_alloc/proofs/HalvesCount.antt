-- Sweeping the first waiting segments leaves all tables right, when the tallies take up the counts of the sweeps.
use Rattle.nmgc_alloc.proofs.Vocabulary.{ℕ, ◌≡◌, ◌≢◌, ◌+◌, ◌-◌, ◌<◌, ◌≤◌, ◌⊎◌, ◌∙◌, inl, inr, refl, ap, subst, sym, arith, List, length, ◌++◌, set, take, drop, slice_index_or, length-set, get_or-drop, ext_get_or, length-drop, take_at, count_by-le-length, cases_lt, Layout, most_segments, Segment, IsSegment, free_segment, Category, KINDS, Tally, nth, Segments, HasNumber, Is, IsKind, IsTally, NoneBelow, sought_count, is_in_category, tally_from, tally_of, tally_place, IsSegments, IsMember, Leads, HaveTallies, SweepsSegment, IsCurrent, IsOutcome, Files, EntersMany, SweepsMany, FirstSwept}
use Rattle.nmgc_segment.specs.declared.state.State.TheVariants as state
use Rattle.nmgc_alloc.specs.declared.search.Category.TheVariants as category
use Rattle.nmgc_alloc.proofs.{TallyLaws.tally_read, TallyLaws.tallies-set, SweepLaws.swept_member, SweepLaws.swept_not_current, SweepLaws.sweeping_is_none, OneLaws.one_of_leads, HalvesLaws.waits_or_not, HalvesLists.count_cut, HalvesLists.none_counted_below, HalvesStates.none_waits, HalvesStates.first_sweeps}

-- a segment that waited below `end` and was swept
record WasFirst (epoch end i : ℕ) (x y : Segment) : Type 0 where
  pub low : i < end
  pub waited : x.state ≡ state.Sweeping
  pub sweeps : SweepsSegment x y epoch
  pub sound : IsSegment y

-- every kind except the waiting segments is a possible outcome of a sweep
outcome : (w : Category) → IsKind w → w ≢ category.Sweeping → IsOutcome w
outcome category.Free kind other = tt
outcome (category.Active class) kind other = kind
outcome category.Sweeping kind other = other refl

outcome_kind : (w : Category) → IsOutcome w → IsKind w
outcome_kind category.Free is = tt
outcome_kind (category.Active class) is = is
outcome_kind category.Sweeping is = tt

-- the number at which the search for a waiting segment begins
pub search_begins : (s now : Segments) (at filled : ℕ) (t : Tally) (slice : List Segment) (current : List ℕ) (tallies : List Tally) → s ≡ now →
    IsSegments s × Leads s.segments current × HaveTallies s.segments tallies filled → at ≡ tally_place category.Sweeping → t ≡ slice_index_or tallies at t →
    slice ≡ s.segments → (t.from ≤ length slice) × NoneBelow category.Sweeping slice t.from
search_begins s now at filled t slice current tallies seen h place read is =
    let found = tally_read category.Sweeping tallies at t tt h.2.kinds place read in
    let known : IsTally category.Sweeping s.segments t = subst (λ (k : Tally). IsTally category.Sweeping s.segments k) found.1 (h.2.tally category.Sweeping tt) in
    let w = known.within in
    subst (λ (xs : List Segment). (t.from ≤ length xs) × NoneBelow category.Sweeping xs t.from) (sym is) (omega (arith, w), known.below)

module _ (epoch count end : ℕ) (was now : List Segment) (h : FirstSwept epoch count end was now) where
  swept_or_same : (i : ℕ) → WasFirst epoch end i (nth was i) (nth now i) ⊎ (nth now i ≡ nth was i)
  swept_or_same i = elim (cases_lt i end) [
    | inl lt ↦ elim (waits_or_not (nth was i)) [
      | inl waits ↦ let swept = (h.below i lt).0 waits in inl (record { low = lt; waited = waits; sweeps = swept.0; sound = swept.1 })
      | inr other ↦ inr ((h.below i lt).1 other)
    ]
    | inr ge ↦ inr (h.above i ge)
  ]

  first_member : (layout : Layout) (i : ℕ) → IsMember layout (nth was i) → IsMember layout (nth now i)
  first_member layout i member = elim (swept_or_same i) [
    | inl w ↦ swept_member layout (nth was i) (nth now i) epoch w.sweeps w.sound member
    | inr same ↦ subst (λ (t : Segment). IsMember layout t) (sym same) member
  ]

  first_leads : (current : List ℕ) → Leads was current → Leads now current
  first_leads current leads = record {
    pairs = leads.pairs;
    owned = λ m c i lm lc there own. elim (swept_or_same i) [
      | inl w ↦ absurd (swept_not_current (nth was i) (nth now i) epoch m w.sweeps own.0)
      | inr same ↦ leads.owned m c i lm lc (omega (arith, there, h.size)) (subst (λ (t : Segment). IsCurrent m c t) same own)
    ];
  }

  -- segments of another kind stay of it, and some that waited join them
  first_stays : (w : Category) → w ≢ category.Sweeping → (i : ℕ) → Is w (nth was i) → Is w (nth now i)
  first_stays w other i is = elim (swept_or_same i) [
    | inl swept ↦ absurd (sweeping_is_none w (nth was i) swept.waited other is)
    | inr same ↦ subst (λ (t : Segment). Is w t) (sym same) is
  ]

  first_comes : (w : Category) (from : ℕ) → NoneBelow category.Sweeping was from → (i : ℕ) → Is w (nth now i) →
      Is w (nth was i) ⊎ ((from ≤ i) × (i < end))
  first_comes w from none i is = elim (swept_or_same i) [
    | inl swept ↦
        let from_on : from ≤ i = elim (cases_lt i from) [ inl lt ↦ absurd (none i lt swept.waited) | inr ge ↦ ge ] in
        inr (from_on, swept.low)
    | inr same ↦ inl (subst (λ (t : Segment). Is w t) same is)
  ]

  -- the segments after them
  behind_stays : drop end now ≡ drop end was
  behind_stays =
      let after : length (drop end now) ≡ length now - end = length-drop end now in
      let before : length (drop end was) ≡ length was - end = length-drop end was in
      ext_get_or (free_segment 0) (drop end now) (drop end was) (omega (arith, after, before, h.size)) (λ i _.
      get_or-drop end now i (free_segment 0) ∙ h.above (end + i) (omega arith) ∙ sym (get_or-drop end was i (free_segment 0)))

  -- the number of waiting segments
  first_waiting : sought_count category.Sweeping now + count ≡ sought_count category.Sweeping was
  first_waiting =
      let none = none_counted_below now end (none_waits epoch count end was now h) (omega (arith, h.size, h.within)) in
      let cut = count_cut end was in
      let new = count_cut end now in
      let same : sought_count category.Sweeping (drop end now) ≡ sought_count category.Sweeping (drop end was) =
      ap (λ (xs : List Segment). sought_count category.Sweeping xs) behind_stays in
      omega (arith, none, cut, new, same, h.counted)

  waiting_tally : (waiting : ℕ) → waiting ≡ sought_count category.Sweeping was → IsTally category.Sweeping now (tally_from (waiting - count) end)
  waiting_tally waiting counts = record {
    counted = let left = first_waiting in omega (arith, left, counts);
    within = (omega arith, omega arith, omega (arith, h.size, h.within));
    below = none_waits epoch count end was now h;
    between = λ i from to is. absurd (omega arith);
  }

  -- the tallies afterwards
  pub first_counts : (gain : Category → ℕ) (more filled at : ℕ) (t : Tally) (tallies taken : List Tally) → HaveTallies was tallies filled →
      Files gain more was now → at ≡ tally_place category.Sweeping → t ≡ slice_index_or tallies at t → length taken ≡ KINDS →
      ((w : Category) → IsOutcome w → EntersMany (gain w) t.from end (tally_of tallies w) (tally_of taken w)) →
      HaveTallies now (set taken at (tally_from (t.count - count) end)) (filled + more)
  first_counts gain more filled at t tallies taken agrees files place read kinds each =
      let found = tally_read category.Sweeping tallies at t tt agrees.kinds place read in
      let known : IsTally category.Sweeping was t = subst (λ (k : Tally). IsTally category.Sweeping was k) found.1 (agrees.tally category.Sweeping tt) in
      let inside : at < length taken = let low = found.0 in omega (arith, low, agrees.kinds, kinds) in
      let last : Tally = tally_from (t.count - count) end in
      record {
        kinds = length-set taken at last ∙ kinds;
        tally = tallies-set (λ w k. IsTally w now k) category.Sweeping taken at last place inside (waiting_tally t.count known.counted)
            (λ w kind other. let is : IsOutcome w = outcome w kind other in
            each w is w was now h.size h.within (agrees.tally w kind) (first_stays w other) (first_comes w t.from known.below) (files.each w is));
        all_filled = let old = agrees.all_filled in let new = files.filled in omega (arith, old, new);
      }

  -- the segments of a kind are at most all segments
  pub few_gained : (w : Category) (gain : Category → ℕ) (more filled : ℕ) (tallies : List Tally) → HaveTallies was tallies filled →
      Files gain more was now → length was ≤ most_segments → IsOutcome w → (tally_of tallies w).count + gain w ≤ most_segments
  few_gained w gain more filled tallies agrees files few is =
      let known = (agrees.tally w (outcome_kind w is)).counted in
      let new = files.each w is in
      let most = count_by-le-length (is_in_category w) now in
      omega (arith, known, new, most, few, h.size)

-- the code's invariant
pub first_invariant : (s : Segments) (epoch count end : ℕ) (now : List Segment) (gain : Category → ℕ) (more filled at : ℕ) (t : Tally) (current : List ℕ)
    (tallies taken : List Tally) → FirstSwept epoch count end s.segments now → IsSegments s × Leads s.segments current × HaveTallies s.segments tallies filled →
    Files gain more s.segments now → at ≡ tally_place category.Sweeping → t ≡ slice_index_or tallies at t → length taken ≡ KINDS →
    ((w : Category) → IsOutcome w → EntersMany (gain w) t.from end (tally_of tallies w) (tally_of taken w)) →
    IsSegments (record s { segments = now }) × Leads now current × HaveTallies now (set taken at (tally_from (t.count - count) end)) (filled + more)
first_invariant s epoch count end now gain more filled at t current tallies taken h sound files place read kinds each =
    let after : Segments = record s { segments = now } in
    let members : (number : ℕ) → HasNumber after number → IsMember s.layout (nth now number) = λ number exists.
    first_member epoch count end s.segments now h s.layout number (sound.0.members number (omega (arith, exists, h.size))) in
    let leads = first_leads epoch count end s.segments now h current sound.1 in (
      record {
        layout = sound.0.layout;
        count = h.size ∙ sound.0.count;
        members = members;
        one_current = one_of_leads after current members leads;
        fresh = let few = sound.0.fresh in let rises = files.filled in omega (arith, few, rises);
      },
      leads,
      first_counts epoch count end s.segments now h gain more filled at t tallies taken sound.2 files place read kinds each,
    )

-- the list after the code's loan of a part of it
loaned : {A : Type 0} → (len : ℕ) (slice now items : List A) → length slice ≡ len → length now ≡ length slice →
    take len (now ++ drop (length now) items) ≡ now
loaned len slice now items long size = take_at now (drop (length now) items) len (size ∙ long)

-- the whole for the code's vectors
pub swept_sweeps : (s before : Segments) (epoch count end len : ℕ) (slice now : List Segment) → s ≡ before → slice ≡ s.segments → length slice ≡ len →
    FirstSwept epoch count end slice now → SweepsMany epoch count before (record s { segments = take len (now ++ drop (length now) s.segments) })
swept_sweeps s before epoch count end len slice now seen is long h =
    let here : FirstSwept epoch count end s.segments now = subst (λ (xs : List Segment). FirstSwept epoch count end xs now) is h in
    rw (← seen) (rw (loaned len slice now s.segments long h.size) (first_sweeps epoch count end s now here))

pub swept_few : (s : Segments) (epoch count end more filled : ℕ) (slice now : List Segment) (gain : Category → ℕ) (current : List ℕ)
    (tallies known : List Tally) → IsSegments s × Leads s.segments current × HaveTallies s.segments tallies filled → slice ≡ s.segments →
    known ≡ tallies → FirstSwept epoch count end slice now → Files gain more slice now → (w : Category) → IsOutcome w →
    (tally_of known w).count + gain w ≤ most_segments
swept_few s epoch count end more filled slice now gain current tallies known sound is agrees h files w outcome =
    let back : s.segments ≡ slice = sym is in
    let few : length slice ≤ most_segments =
    (let most = sound.0.layout.segments in let all = sound.0.count in let size = ap (λ (xs : List Segment). length xs) is in omega (arith, most, all, size)) in
    rw agrees (few_gained epoch count end slice now h w gain more filled tallies (subst (λ (xs : List Segment). HaveTallies xs tallies filled) back sound.2)
    files few outcome)

pub swept_invariant : (s : Segments) (epoch count end more filled at place len many : ℕ) (slice now : List Segment) (gain : Category → ℕ) (t last : Tally)
    (current : List ℕ) (tallies known taken : List Tally) → IsSegments s × Leads s.segments current × HaveTallies s.segments tallies filled →
    slice ≡ s.segments → length slice ≡ len → known ≡ tallies → length known ≡ many → FirstSwept epoch count end slice now → Files gain more slice now →
    at ≡ tally_place category.Sweeping → t ≡ slice_index_or tallies at t → length taken ≡ KINDS →
    ((w : Category) → IsOutcome w → EntersMany (gain w) t.from end (tally_of known w) (tally_of taken w)) → place ≡ tally_place category.Sweeping →
    last ≡ tally_from (t.count - count) end →
    IsSegments (record s { segments = take len (now ++ drop (length now) s.segments) }) ×
    Leads (take len (now ++ drop (length now) s.segments)) current ×
    HaveTallies (take len (now ++ drop (length now) s.segments)) (set (take many (taken ++ drop (length taken) tallies)) place last) (filled + more)
swept_invariant s epoch count end more filled at place len many slice now gain t last current tallies known taken sound is long agrees size h files at_is
    read kinds each place_is last_is =
    let here : FirstSwept epoch count end s.segments now = subst (λ (xs : List Segment). FirstSwept epoch count end xs now) is h in
    let files_here : Files gain more s.segments now = subst (λ (xs : List Segment). Files gain more xs now) is files in
    let each_here : (w : Category) → IsOutcome w → EntersMany (gain w) t.from end (tally_of tallies w) (tally_of taken w) =
    subst (λ (ts : List Tally). (w : Category) → IsOutcome w → EntersMany (gain w) t.from end (tally_of ts w) (tally_of taken w)) agrees each in
    let whole : take len (now ++ drop (length now) s.segments) ≡ now = loaned len slice now s.segments long h.size in
    let as_many : length taken ≡ length known =
    (let before = sound.2.kinds in let same = ap (λ (ts : List Tally). length ts) agrees in omega (arith, kinds, before, same)) in
    let all : take many (taken ++ drop (length taken) tallies) ≡ taken = loaned many known taken tallies size as_many in
    let same : set taken at (tally_from (t.count - count) end) ≡ set (take many (taken ++ drop (length taken) tallies)) place last =
    (λ i. set (sym all i) ((at_is ∙ sym place_is) i) (sym last_is i)) in
    rw whole (rw same at (first_invariant s epoch count end now gain more filled at t current tallies taken here sound files_here at_is read kinds each_here))
