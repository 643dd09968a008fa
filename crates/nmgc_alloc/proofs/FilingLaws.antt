-- The tallies stay right when many segments become segments of a kind at once.
use Rattle.nmgc_alloc.proofs.Vocabulary.{ℕ, zero, suc, ◌≡◌, ◌≢◌, ◌+◌, ◌<◌, ◌≤◌, ◌⊎◌, ◌∙◌, inl, inr, ap, subst, sym, arith, List, [], ◌∷◌, length, set, slice_index_or, min, max, get_or-set_same, get_or-set_other, sum_by-cons, cases_Bool, cases_eq, cases_lt, most_segments, Segment, Filed, Category, CLASSES, KINDS, Tally, nth, Is, IsKind, is_in_category, sought_count, tally_from, tally_of, tally_place, EntersMany, IsOutcome, gained, one_if}
use Rattle.std.proofs.Common.{length-set}
use Rattle.nmgc_alloc.specs.declared.search.Category.TheVariants as category
use Rattle.nmgc_alloc.proofs.TallyLaws.{passes, from_test, kind_place}

-- a segment that stays of the kind counts at least as before
one_stays : (w : Category) (x y : Segment) → (Is w x → Is w y) → one_if (is_in_category w x) ≤ one_if (is_in_category w y)
one_stays w x y stays = elim (cases_Bool (is_in_category w x)) [
  | inl is_one ↦
      let now : one_if (is_in_category w y) ≡ 1 = ap one_if (passes w y (stays (from_test w x is_one))) in
      let was : one_if (is_in_category w x) ≡ 1 = ap one_if is_one in
      omega (arith, now, was)
  | inr other ↦ let was : one_if (is_in_category w x) ≡ 0 = ap one_if other in omega (arith, was)
]

-- if every segment of the kind stays of it, the count doesn't fall
not_fewer : (w : Category) (was now : List Segment) → length now ≡ length was → ((i : ℕ) → Is w (nth was i) → Is w (nth now i)) →
    sought_count w was ≤ sought_count w now
not_fewer w [] now size stays = omega arith
not_fewer w (x ∷ xs) [] size stays = absurd (omega (arith, size))
not_fewer w (x ∷ xs) (y ∷ ys) size stays =
    let old = sum_by-cons (λ (t : Segment). one_if (is_in_category w t)) x xs in
    let new = sum_by-cons (λ (t : Segment). one_if (is_in_category w t)) y ys in
    let here = one_stays w x y (stays 0) in
    let rest = not_fewer w xs ys (omega (arith, size)) (λ i. stays (suc i)) in
    omega (arith, old, new, here, rest)

-- and if the count stays, no segment has entered the kind
pub none_new : (w : Category) (was now : List Segment) → length now ≡ length was → ((i : ℕ) → Is w (nth was i) → Is w (nth now i)) →
    sought_count w now ≡ sought_count w was → (i : ℕ) → Is w (nth now i) → Is w (nth was i)
none_new w [] [] size stays same i is = is
none_new w [] (y ∷ ys) size stays same i is = absurd (omega (arith, size))
none_new w (x ∷ xs) [] size stays same i is = absurd (omega (arith, size))
none_new w (x ∷ xs) (y ∷ ys) size stays same zero is =
    let old = sum_by-cons (λ (t : Segment). one_if (is_in_category w t)) x xs in
    let new = sum_by-cons (λ (t : Segment). one_if (is_in_category w t)) y ys in
    let rest = not_fewer w xs ys (omega (arith, size)) (λ i. stays (suc i)) in
    let now : one_if (is_in_category w y) ≡ 1 = ap one_if (passes w y is) in
    elim (cases_Bool (is_in_category w x)) [
      | inl is_one ↦ from_test w x is_one
      | inr other ↦ let none : one_if (is_in_category w x) ≡ 0 = ap one_if other in absurd (omega (arith, old, new, rest, now, none, same))
    ]
none_new w (x ∷ xs) (y ∷ ys) size stays same (suc i) is =
    let old = sum_by-cons (λ (t : Segment). one_if (is_in_category w t)) x xs in
    let new = sum_by-cons (λ (t : Segment). one_if (is_in_category w t)) y ys in
    let here = one_stays w x y (stays 0) in
    let long : length ys ≡ length xs = omega (arith, size) in
    let rest = not_fewer w xs ys long (λ k. stays (suc k)) in
    none_new w xs ys long (λ k. stays (suc k)) (omega (arith, old, new, here, rest, same)) i is

-- a tally stays right if no segment enters the kind
pub none_entered : (from end : ℕ) (t : Tally) → EntersMany 0 from end t t
none_entered from end t w was now size within h stays becomes count =
    let same : sought_count w now ≡ sought_count w was = omega (arith, count) in
    let back = none_new w was now size stays same in
    let most = h.within.2 in
    let known = h.counted in
    record {
      counted = omega (arith, known, same);
      within = (h.within.0, h.within.1, omega (arith, size, most));
      below = λ i low is. h.below i low (back i is);
      between = λ i ge lt is. h.between i ge lt (back i is);
    }

-- many entered the kind from `from` on and below `end`; the new tally rules out only numbers outside that it ruled out before
entered : (gain from end : ℕ) (old new : Tally) → new.count ≡ old.count + gain → (new.from ≤ old.from) × (new.from ≤ from) →
    (new.from ≤ new.past) × (new.past ≤ new.until) × (new.until ≤ max old.until end) → end ≤ new.past →
    ((i : ℕ) → new.past ≤ i → i < new.until → (i < old.from) ⊎ ((old.past ≤ i) × (i < old.until))) → EntersMany gain from end old new
entered gain from end old new counts starts order above ruled_out w was now size within h stays becomes count =
    let most = h.within.2 in
    let known = h.counted in
    record {
      counted = omega (arith, known, counts, count);
      within = (order.0, order.1, omega (arith, order.2, within, most, size));
      below = λ i lt is. elim (becomes i is) [
        | inl before ↦ h.below i (omega (arith, lt, starts.0)) before
        | inr high ↦ let ge = high.0 in absurd (omega (arith, ge, lt, starts.1))
      ];
      between = λ i ge lt is. elim (becomes i is) [
        | inl before ↦ elim (ruled_out i ge lt) [
          | inl low ↦ h.below i low before
          | inr stretch ↦ h.between i stretch.0 stretch.1 before
        ]
        | inr high ↦ let end_of = high.1 in absurd (omega (arith, end_of, ge, above))
      ];
    }

-- they lie below all former segments of the kind: the tally keeps the lower of two stretches, up to those
pub entered_below : (gain from end : ℕ) (old new : Tally) → from ≤ end → end ≤ old.from → new.count ≡ old.count + gain → new.from ≡ from →
    new.past ≡ end → ((old.from < old.past) × (new.until ≡ old.from)) ⊎ ((old.past ≤ old.from) × (new.until ≡ old.until)) → EntersMany gain from end old new
entered_below gain from end old new range low counts starts past ends w was now size within h =
    let order = h.within in
    entered gain from end old new counts (omega (arith, starts, range, low), omega (arith, starts)) (
      omega (arith, starts, past, range),
      elim ends [
        | inl kept ↦ let until = kept.1 in omega (arith, past, until, low)
        | inr whole ↦ let until = whole.1 in omega (arith, past, until, low, order)
      ],
      elim ends [
        | inl kept ↦ let until = kept.1 in omega (arith, until, order)
        | inr whole ↦ let until = whole.1 in omega (arith, until)
      ],
    ) (omega (arith, past)) (λ i ge lt. elim ends [
      | inl kept ↦ let until = kept.1 in inl (omega (arith, lt, until))
      | inr whole ↦ elim (cases_lt i old.from) [
        | inl under ↦ inl under
        | inr over ↦ let none = whole.0 in let until = whole.1 in inr (omega (arith, over, none), omega (arith, lt, until))
      ]
    ]) w was now size within h

-- they don't: the tally keeps the part of the stretch above them
pub entered_above : (gain from end : ℕ) (old new : Tally) → from ≤ end → new.count ≡ old.count + gain → new.from ≡ min old.from from →
    new.past ≡ max old.past end → new.until ≡ max old.until new.past → EntersMany gain from end old new
entered_above gain from end old new range counts starts past ends w was now size within h =
    let order = h.within in
    entered gain from end old new counts (omega (arith, starts), omega (arith, starts))
    (omega (arith, starts, past, range), omega (arith, ends), omega (arith, ends, past, order)) (omega (arith, past))
    (λ i ge lt. inr (omega (arith, ge, past), omega (arith, ge, lt, ends))) w was now size within h

-- a table with another tally at one position
pub tally-set_same : (w : Category) (ts : List Tally) (at : ℕ) (t : Tally) → at ≡ tally_place w → at < length ts → tally_of (set ts at t) w ≡ t
tally-set_same w ts at t place inside = cc (place, get_or-set_same ts at t (tally_from 0 0) inside)

pub tally-set_other : (w : Category) (ts : List Tally) (at : ℕ) (t : Tally) → tally_place w ≢ at → tally_of (set ts at t) w ≡ tally_of ts w
tally-set_other w ts at t other = get_or-set_other ts at (tally_place w) t (tally_from 0 0) other

-- a tally that took up the counts
pub enters_at : (gain from end : ℕ) (w : Category) (ts : List Tally) (at : ℕ) (new : Tally) → IsKind w → length ts ≡ KINDS → at ≡ tally_place w →
    EntersMany gain from end (slice_index_or ts at (tally_from 0 0)) new → EntersMany gain from end (tally_of ts w) (tally_of (set ts at new) w)
enters_at gain from end w ts at new kind many place enters =
    let low = kind_place w kind in
    let now = tally-set_same w ts at new place (omega (arith, low, many, place)) in
    let was : slice_index_or ts at (tally_from 0 0) ≡ tally_of ts w = ap (λ (k : ℕ). slice_index_or ts k (tally_from 0 0)) place in
    rw (← was) (subst (λ (t : Tally). EntersMany gain from end (slice_index_or ts at (tally_from 0 0)) t) (sym now) enters)

-- the tallies of the free segments, and of the classes so far, took up the counts of two parts, and the rest is unchanged
pub record TakenUp (lower upper : Filed) (from end classes : ℕ) (was now : List Tally) : Type 0 where
  pub kinds : length now ≡ KINDS
  pub free : EntersMany (gained lower category.Free + gained upper category.Free) from end (tally_of was category.Free) (tally_of now category.Free)
  pub active : (class : ℕ) → class < classes → EntersMany (gained lower (category.Active class) + gained upper (category.Active class)) from end
      (tally_of was (category.Active class)) (tally_of now (category.Active class))
  pub rest : (class : ℕ) → classes ≤ class → tally_of now (category.Active class) ≡ tally_of was (category.Active class)
  pub waiting : tally_of now category.Sweeping ≡ tally_of was category.Sweeping

-- first the tally of the free segments
pub taken_free : (lower upper : Filed) (from end : ℕ) (ts : List Tally) (at : ℕ) (new : Tally) → length ts ≡ KINDS → at ≡ tally_place category.Free →
    EntersMany (lower.free + upper.free) from end (slice_index_or ts at (tally_from 0 0)) new → TakenUp lower upper from end 0 ts (set ts at new)
taken_free lower upper from end ts at new many place enters = record {
  kinds = length-set ts at new ∙ many;
  free = enters_at (lower.free + upper.free) from end category.Free ts at new tt many place enters;
  active = λ class lt. absurd (omega (arith, lt));
  rest = λ class ge. tally-set_other (category.Active class) ts at new (λ e. omega (arith, e, place));
  waiting = tally-set_other category.Sweeping ts at new (λ e. omega (arith, e, place));
}

-- then the tally of one class after the other
pub taken_class : (lower upper : Filed) (from end class : ℕ) (was now : List Tally) (at : ℕ) (new : Tally) → class < CLASSES →
    at ≡ tally_place (category.Active class) →
    EntersMany (gained lower (category.Active class) + gained upper (category.Active class)) from end (slice_index_or now at (tally_from 0 0)) new →
    TakenUp lower upper from end class was now → TakenUp lower upper from end (class + 1) was (set now at new)
taken_class lower upper from end class was now at new small place enters h =
    let gain : ℕ → ℕ = λ k. gained lower (category.Active k) + gained upper (category.Active k) in
    let here = enters_at (gain class) from end (category.Active class) now at new small h.kinds place enters in
    let same = h.rest class (omega arith) in
    record {
      kinds = length-set now at new ∙ h.kinds;
      free = rw (tally-set_other category.Free now at new (λ e. omega (arith, e, place))) h.free;
      active = λ k lt. elim (cases_eq k class) [
        | inl e ↦
            rw e (subst (λ (t : Tally). EntersMany (gain class) from end t (tally_of (set now at new) (category.Active class))) same here)
        | inr ne ↦
            rw (tally-set_other (category.Active k) now at new (λ e. ne (omega (arith, e, place)))) (h.active k (omega (arith, lt, ne)))
      ];
      rest = λ k ge. tally-set_other (category.Active k) now at new (λ e. omega (arith, e, place, ge)) ∙ h.rest k (omega (arith, ge));
      waiting = tally-set_other category.Sweeping now at new (λ e. omega (arith, e, place)) ∙ h.waiting;
    }

-- finally all tallies
pub taken_all : (lower upper : Filed) (from end classes : ℕ) (was now : List Tally) → CLASSES ≤ classes → TakenUp lower upper from end classes was now →
    (w : Category) → IsOutcome w → EntersMany (gained lower w + gained upper w) from end (tally_of was w) (tally_of now w)
taken_all lower upper from end classes was now all h category.Free is = h.free
taken_all lower upper from end classes was now all h (category.Active class) is = h.active class (omega (arith, is, all))
taken_all lower upper from end classes was now all h category.Sweeping is = absurd is

-- and no tally becomes greater than the number of segments that there may be
pub few_taken : (lower upper : Filed) (from end class : ℕ) (was now : List Tally) (at : ℕ) → class < CLASSES → at ≡ tally_place (category.Active class) →
    TakenUp lower upper from end class was now →
    ((w : Category) → IsOutcome w → (tally_of was w).count + (gained lower w + gained upper w) ≤ most_segments) →
    (slice_index_or now at (tally_from 0 0)).count + (gained lower (category.Active class) + gained upper (category.Active class)) ≤ most_segments
few_taken lower upper from end class was now at small place h few =
    let read : slice_index_or now at (tally_from 0 0) ≡ tally_of now (category.Active class) = ap (λ (k : ℕ). slice_index_or now k (tally_from 0 0)) place in
    let same = ap (λ (t : Tally). t.count) (read ∙ h.rest class (omega arith)) in
    let most = few (category.Active class) small in
    omega (arith, same, most)
