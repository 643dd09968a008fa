-- Sweeping the first waiting segments in any order has the same result as sweeping one after the other.
use Rattle.nmgc_alloc.proofs.{Vocabulary.ℕ, Vocabulary.zero, Vocabulary.suc, Vocabulary.◌≡◌, Vocabulary.◌+◌, Vocabulary.◌<◌, Vocabulary.◌≤◌, Vocabulary.◌∙◌, Vocabulary.inl, Vocabulary.inr, Vocabulary.refl, Vocabulary.ap, Vocabulary.subst, Vocabulary.sym, Vocabulary.arith, Vocabulary.List, Vocabulary.length, Vocabulary.set, Vocabulary.take, Vocabulary.length-set, Vocabulary.set-get_or, Vocabulary.ext_get_or, Vocabulary.cases_eq, Vocabulary.cases_lt, Vocabulary.Segment, Vocabulary.free_segment, Vocabulary.Sweeping, Vocabulary.nth, Vocabulary.Segments, Vocabulary.NoneBelow, Vocabulary.is_in_category, Vocabulary.sought_count, Vocabulary.SweepsNext, Vocabulary.SweepsMany, Vocabulary.FirstSwept, Vocabulary.one_if, Vocabulary.nth-set_same, Vocabulary.nth-set_other, TallyLaws.passes, TallyLaws.fails, SweepLaws.swept_not_sweeping, HalvesLaws.waits_or_not, HalvesLaws.sweeps_more, HalvesLists.count_more}
use Rattle.nmgc_segment.specs.declared.state.State.TheVariants as state

-- the first `n` segments as they are afterwards, and the rest as before
abbrev with_first : ℕ → List Segment → List Segment → List Segment
with_first zero was now = was
with_first (suc n) was now = set (with_first n was now) n (nth now n)

first_size : (n : ℕ) (was now : List Segment) → length (with_first n was now) ≡ length was
first_size zero was now = refl
first_size (suc n) was now = length-set (with_first n was now) n (nth now n) ∙ first_size n was now

first_below : (n : ℕ) (was now : List Segment) → n ≤ length was → (i : ℕ) → i < n → nth (with_first n was now) i ≡ nth now i
first_below zero was now within i lt = absurd (omega arith)
first_below (suc n) was now within i lt = elim (cases_eq i n) [
  | inl e ↦
      let size = first_size n was now in
      rw e (nth-set_same (with_first n was now) n (nth now n) (omega (arith, size, within)))
  | inr ne ↦
      nth-set_other (with_first n was now) n i (nth now n) ne
      ∙ first_below n was now (omega (arith, within)) i (omega (arith, lt, ne))
]

first_above : (n : ℕ) (was now : List Segment) (i : ℕ) → n ≤ i → nth (with_first n was now) i ≡ nth was i
first_above zero was now i ge = refl
first_above (suc n) was now i ge =
    nth-set_other (with_first n was now) n i (nth now n) (λ e. omega (arith, e, ge)) ∙ first_above n was now i (omega (arith, ge))

-- none of the first segments waits afterwards
pub none_waits : (epoch count end : ℕ) (was now : List Segment) → FirstSwept epoch count end was now → NoneBelow Sweeping now end
none_waits epoch count end was now h i lt w = elim (waits_or_not (nth was i)) [
  | inl waits ↦ swept_not_sweeping (nth was i) (nth now i) epoch ((h.below i lt).0 waits).0 w
  | inr other ↦ other (sym (ap (λ (t : Segment). t.state) ((h.below i lt).1 other)) ∙ w)
]

module _ (epoch count end : ℕ) (s : Segments) (now : List Segment) (h : FirstSwept epoch count end s.segments now) where
  abbrev xs : ℕ → List Segment
  xs n = with_first n s.segments now

  abbrev mid : ℕ → Segments
  mid n = record s { segments = xs n }

  there : (n : ℕ) → nth (xs n) n ≡ nth s.segments n
  there n = first_above n s.segments now n (omega arith)

  -- the next waiting segment is swept
  sweeps_next : (n : ℕ) → n < end → (nth s.segments n).state ≡ state.Sweeping → SweepsNext (mid n) (mid (suc n)) epoch n
  sweeps_next n lt waits =
      let size = first_size n s.segments now in
      let exists : n < length (xs n) = omega (arith, size, lt, h.within) in
      let here : nth (set (xs n) n (nth now n)) n ≡ nth now n = nth-set_same (xs n) n (nth now n) exists in
      let within : n ≤ length s.segments = omega (arith, lt, h.within) in
      record {
        least = record {
          exists = exists;
          is = ap (λ (t : Segment). t.state) (there n) ∙ waits;
          none_below = λ i low w. none_waits epoch count end s.segments now h i (omega (arith, low, lt))
              (cc (first_below n s.segments now within i low, w));
        };
        sweeps = rw (there n) (rw here ((h.below n lt).0 waits).0);
        others = ap (λ (x : Segment). record s { segments = set (xs n) n x }) (sym here);
      }

  -- a segment that doesn't wait stays
  stays : (n : ℕ) → n < end → ((nth s.segments n).state ≡ state.Sweeping → ⊥) → xs (suc n) ≡ xs n
  stays n lt other = ap (λ (x : Segment). set (xs n) n x) ((h.below n lt).1 other ∙ sym (there n)) ∙ set-get_or (xs n) n (free_segment 0)

  so_far : (n : ℕ) → n ≤ end → SweepsMany epoch (sought_count Sweeping (take n s.segments)) s (mid n)
  so_far zero le = refl
  so_far (suc n) le =
      let before = so_far n (omega (arith, le)) in
      let one : ℕ = one_if (is_in_category Sweeping (nth s.segments n)) in
      let next : n + 1 ≡ suc n = omega arith in
      let more : sought_count Sweeping (take (suc n) s.segments) ≡ sought_count Sweeping (take n s.segments) + one =
      ap (λ (k : ℕ). sought_count Sweeping (take k s.segments)) (sym next) ∙ count_more s.segments n (omega (arith, le, h.within)) in
      elim (waits_or_not (nth s.segments n)) [
        | inl waits ↦
            let is : one_if (is_in_category Sweeping (nth s.segments n)) ≡ 1 = ap one_if (passes Sweeping (nth s.segments n) waits) in
            let total : suc (sought_count Sweeping (take n s.segments)) ≡ sought_count Sweeping (take (suc n) s.segments) = omega (arith, more, is) in
            subst (λ (k : ℕ). SweepsMany epoch k s (mid (suc n))) total
            (sweeps_more epoch (sought_count Sweeping (take n s.segments)) n s (mid n) (mid (suc n)) before (sweeps_next n (omega (arith, le)) waits))
        | inr other ↦
            let is : one_if (is_in_category Sweeping (nth s.segments n)) ≡ 0 = ap one_if (fails Sweeping (nth s.segments n) other) in
            let total : sought_count Sweeping (take n s.segments) ≡ sought_count Sweeping (take (suc n) s.segments) = omega (arith, more, is) in
            subst (λ (k : ℕ). SweepsMany epoch k s (mid (suc n))) total
            (subst (λ (l : List Segment). SweepsMany epoch (sought_count Sweeping (take n s.segments)) s (record s { segments = l })) (sym (stays n (omega (
              arith,
              le,
            )) other)) before)
      ]

  whole : xs end ≡ now
  whole =
      let size : length (xs end) ≡ length now = first_size end s.segments now ∙ sym h.size in
      ext_get_or (free_segment 0) (xs end) now size (λ i low. elim (cases_lt i end) [
        | inl lt ↦ first_below end s.segments now h.within i lt
        | inr ge ↦ first_above end s.segments now i ge ∙ sym (h.above i ge)
      ])

  pub first_sweeps : SweepsMany epoch count s (record s { segments = now })
  first_sweeps =
      rw (← h.counted) (rw whole at (so_far end (omega arith)))
