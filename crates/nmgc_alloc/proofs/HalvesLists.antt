-- Segments swept part by part: parts put together, and counts of a list that is cut.
use Rattle.nmgc_alloc.proofs.Vocabulary.{ℕ, ◌≡◌, ◌+◌, ◌-◌, ◌<◌, ◌≤◌, ◌∙◌, inl, inr, refl, ap, subst, sym, arith, Bool, true, false, List, [], ◌∷◌, ◌++◌, length, set, take, drop, take-append-drop, get_or-take, get_or-drop, get_or_append_left, get_or-append_right, take_more, length-append, length-drop, cases_eq, cases_lt, take-add, length-take-le, Segment, free_segment, Sweeping, nth, NoneBelow, is_in_category, sought_count, SweptWaiting, AllSwept, FirstSwept, one_if, nth-set_same, nth-set_other}
use Rattle.std.proofs.Common.{length-set}
use Rattle.nmgc_segment.specs.declared.state.State.TheVariants as state
use Rattle.nmgc_alloc.proofs.{TallyLaws.passes, FiledLists.count_parts, HalvesLaws.none_below_none}

-- the count of a list that is cut is the sum of the counts of its parts
pub count_both : (xs ys : List Segment) → sought_count Sweeping (xs ++ ys) ≡ sought_count Sweeping xs + sought_count Sweeping ys
count_both xs ys = count_parts Sweeping xs ys

pub count_cut : (n : ℕ) (xs : List Segment) → sought_count Sweeping xs ≡ sought_count Sweeping (take n xs) + sought_count Sweeping (drop n xs)
count_cut n xs = ap (λ (l : List Segment). sought_count Sweeping l) (sym (take-append-drop n xs)) ∙ count_both (take n xs) (drop n xs)

pub count_more : (xs : List Segment) (n : ℕ) → n < length xs →
    sought_count Sweeping (take (n + 1) xs) ≡ sought_count Sweeping (take n xs) + one_if (is_in_category Sweeping (nth xs n))
count_more xs n lt =
    let both : sought_count Sweeping (take (n + 1) xs) ≡ sought_count Sweeping (take n xs) + sought_count Sweeping (nth xs n ∷ []) =
    ap (λ (l : List Segment). sought_count Sweeping l) (take_more xs n (free_segment 0) lt) ∙ count_both (take n xs) (nth xs n ∷ []) in
    let one : sought_count Sweeping (nth xs n ∷ []) ≡ 0 + one_if (is_in_category Sweeping (nth xs n)) = refl in
    omega (arith, both, one)

-- one or none
pub one_or_none : (b : Bool) → one_if b ≤ 1
one_or_none true = omega arith
one_or_none false = omega arith

-- the waiting segments before one that waits are fewer than all
pub count_lt : (xs : List Segment) (n : ℕ) → n < length xs → (nth xs n).state ≡ state.Sweeping → sought_count Sweeping (take n xs) < sought_count Sweeping xs
count_lt xs n lt waits =
    let more = count_more xs n lt in
    let one : one_if (is_in_category Sweeping (nth xs n)) ≡ 1 = ap one_if (passes Sweeping (nth xs n) waits) in
    let all = count_cut (n + 1) xs in
    omega (arith, more, one, all)

-- a loop over segments: the segments so far were swept, and the rest is unchanged
pub record SweptSo (epoch i : ℕ) (was now : List Segment) : Type 0 where
  pub size : length now ≡ length was
  pub each : (j : ℕ) → j < i → SweptWaiting epoch (nth was j) (nth now j)
  pub rest : (j : ℕ) → i ≤ j → nth now j ≡ nth was j

pub swept_start : (epoch : ℕ) (was : List Segment) → SweptSo epoch 0 was was
swept_start epoch was = record { size = refl; each = λ j lt. absurd (omega (arith, lt)); rest = λ j ge. refl }

pub swept_next : (epoch i : ℕ) (was now : List Segment) (y : Segment) → i < length now → SweptSo epoch i was now →
    SweptWaiting epoch (nth now i) y → SweptSo epoch (i + 1) was (set now i y)
swept_next epoch i was now y inside h s = record {
  size = length-set now i y ∙ h.size;
  each = λ j lt. elim (cases_eq j i) [
    | inl e ↦
        rw e (rw (nth-set_same now i y inside) (rw (h.rest i (omega arith)) at s))
    | inr ne ↦ subst (λ (x : Segment). SweptWaiting epoch (nth was j) x) (sym (nth-set_other now i j y ne)) (h.each j (omega (arith, lt, ne)))
  ];
  rest = λ j ge. nth-set_other now i j y (λ e. omega (arith, e, ge)) ∙ h.rest j (omega (arith, ge));
}

-- two parts one after the other
pub swept_both : (epoch : ℕ) (a b c d : List Segment) → AllSwept epoch a c → AllSwept epoch b d → AllSwept epoch (a ++ b) (c ++ d)
swept_both epoch a b c d x y =
    let all : length (a ++ b) ≡ length a + length b = length-append a b in
    let new : length (c ++ d) ≡ length c + length d = length-append c d in
    record {
      size = omega (arith, all, new, x.size, y.size);
      each = λ i lt. elim (cases_lt i (length a)) [
        | inl low ↦
            let was : nth (a ++ b) i ≡ nth a i = get_or_append_left a b (free_segment 0) i low in
            let now : nth (c ++ d) i ≡ nth c i = get_or_append_left c d (free_segment 0) i (omega (arith, low, x.size)) in
            rw was (rw now (x.each i low))
        | inr high ↦
            let was : nth (a ++ b) i ≡ nth b (i - length a) = get_or-append_right a b (length a) i (free_segment 0) refl high in
            let now : nth (c ++ d) i ≡ nth d (i - length a) = get_or-append_right c d (length a) i (free_segment 0) x.size high in
            rw was (rw now (y.each (i - length a) (omega (arith, lt, all, high))))
      ];
    }

-- and further segments after them that stay
pub first_from : (epoch end count : ℕ) (was new : List Segment) → end ≤ length was → sought_count Sweeping (take end was) ≡ count →
    AllSwept epoch (take end was) new → FirstSwept epoch count end was (new ++ drop end was)
first_from epoch end count was new within counted h =
    let size : length (take end was) ≡ end = length-take-le end was within in
    let long : length new ≡ end = h.size ∙ size in
    let all : length (new ++ drop end was) ≡ length new + length (drop end was) = length-append new (drop end was) in
    let left : length (drop end was) ≡ length was - end = length-drop end was in
    record {
      within = within;
      counted = counted;
      size = omega (arith, all, left, long, within);
      below = λ i lt.
          let old : nth (take end was) i ≡ nth was i = get_or-take end was i (free_segment 0) lt in
          let now : nth (new ++ drop end was) i ≡ nth new i = get_or_append_left new (drop end was) (free_segment 0) i (omega (arith, lt, long)) in
          rw now (rw old at (h.each i (omega (arith, lt, size))));
      above = λ i ge.
          let split : end + (i - end) ≡ i = omega (arith, ge) in
          cc (get_or-append_right new (drop end was) end i (free_segment 0) long ge, get_or-drop end was (i - end) (free_segment 0), split);
    }

-- the parts as the code cuts them
pub swept_parts : (epoch middle end lower_count upper_count count : ℕ) (was front back low high low_new high_new : List Segment) →
    front ≡ take end was → back ≡ drop end was → low ≡ take middle front → high ≡ drop middle front → middle ≤ end → end ≤ length was →
    sought_count Sweeping (take (middle - 0) (drop 0 was)) ≡ lower_count →
    sought_count Sweeping (take (end - middle) (drop middle was)) ≡ upper_count → lower_count + upper_count ≡ count → AllSwept epoch low low_new →
    AllSwept epoch high high_new → FirstSwept epoch count end was ((low_new ++ high_new) ++ back)
swept_parts epoch middle end lower_count upper_count count was front back low high low_new high_new f b l h order within lower upper total x y =
    let both : AllSwept epoch (low ++ high) (low_new ++ high_new) = swept_both epoch low high low_new high_new x y in
    let whole : low ++ high ≡ take end was = (λ i. l i ++ h i) ∙ take-append-drop middle front ∙ f in
    let cut : take end was ≡ take middle was ++ take (end - middle) (drop middle was) =
    (let split : end ≡ middle + (end - middle) = omega (arith, order) in ap (λ (n : ℕ). take n was) split) ∙ take-add middle (end - middle) was in
    let sum : sought_count Sweeping (take end was) ≡ sought_count Sweeping (take middle was) + sought_count Sweeping (take (end - middle) (drop middle was)) =
    ap (λ (xs : List Segment). sought_count Sweeping xs) cut ∙ count_both (take middle was) (take (end - middle) (drop middle was)) in
    let zero : middle - 0 ≡ middle = omega arith in
    let low_is : sought_count Sweeping (take middle was) ≡ lower_count = ap (λ (n : ℕ). sought_count Sweeping (take n was)) (sym zero) ∙ lower in
    let counted : sought_count Sweeping (take end was) ≡ count = omega (arith, sum, low_is, upper, total) in
    rw b (first_from epoch end count was (low_new ++ high_new) within counted (subst (λ (xs : List Segment). AllSwept epoch xs (low_new ++ high_new)) whole both))

-- if none of the first segments waits, the search may begin after them
pub none_counted_below : (xs : List Segment) (n : ℕ) → NoneBelow Sweeping xs n → n ≤ length xs → sought_count Sweeping (take n xs) ≡ 0
none_counted_below xs n none within = elim (cases_eq (sought_count Sweeping (take n xs)) 0) [
  | inl e ↦ e
  | inr ne ↦ absurd (none_below_none xs n none within (omega (arith, ne)))
]

pub count_behind : (n count : ℕ) (xs back : List Segment) → back ≡ drop n xs → n ≤ length xs → NoneBelow Sweeping xs n →
    count ≤ sought_count Sweeping xs → count ≤ sought_count Sweeping back
count_behind n count xs back b within none enough =
    let cut = count_cut n xs in
    let low = none_counted_below xs n none within in
    let same : sought_count Sweeping back ≡ sought_count Sweeping (drop n xs) = ap (λ (l : List Segment). sought_count Sweeping l) b in
    omega (arith, cut, low, same, enough)

pub first_behind : (epoch count end n : ℕ) (was front back new : List Segment) → front ≡ take n was → back ≡ drop n was → n ≤ length was →
    NoneBelow Sweeping was n → FirstSwept epoch count end back new → FirstSwept epoch count (n + end) was (front ++ new)
first_behind epoch count end n was front back new f b within none h =
    let size : length front ≡ n = ap (λ (xs : List Segment). length xs) f ∙ length-take-le n was within in
    let left : length back ≡ length was - n = ap (λ (xs : List Segment). length xs) b ∙ length-drop n was in
    let all : length (front ++ new) ≡ length front + length new = length-append front new in
    let cut : take (n + end) was ≡ take n was ++ take end back = take-add n end was ∙ ap (λ (xs : List Segment). take n was ++ take end xs) (sym b) in
    let sum : sought_count Sweeping (take (n + end) was) ≡ sought_count Sweeping (take n was) + sought_count Sweeping (take end back) =
    ap (λ (xs : List Segment). sought_count Sweeping xs) cut ∙ count_both (take n was) (take end back) in
    let low = none_counted_below was n none within in
    let here : (i : ℕ) → i < n → nth (front ++ new) i ≡ nth was i = λ i lt.
    get_or_append_left front new (free_segment 0) i (omega (arith, lt, size)) ∙ ap (λ (xs : List Segment). nth xs i) f ∙
    get_or-take n was i (free_segment 0) lt in
    let there : (i : ℕ) → n ≤ i → nth (front ++ new) i ≡ nth new (i - n) = λ i ge. get_or-append_right front new n i (free_segment 0) size ge in
    let before : (i : ℕ) → n ≤ i → nth back (i - n) ≡ nth was i = λ i ge.
    let split : n + (i - n) ≡ i = omega (arith, ge) in
    ap (λ (xs : List Segment). nth xs (i - n)) b ∙ get_or-drop n was (i - n) (free_segment 0) ∙ ap (λ (k : ℕ). nth was k) split in
    record {
      within = omega (arith, h.within, left, within);
      counted = omega (arith, sum, low, h.counted);
      size = omega (arith, all, size, h.size, left, within);
      below = λ i lt. elim (cases_lt i n) [
        | inl less ↦ ((λ w. absurd (none i less w)), (λ _. here i less))
        | inr ge ↦ rw (there i ge) (rw (before i ge) at (h.below (i - n) (omega (arith, lt, ge))))
      ];
      above = λ i ge. there i (omega (arith, ge)) ∙ h.above (i - n) (omega (arith, ge)) ∙ before i (omega (arith, ge));
    }
