-- The segments that sweeps make of each kind, counted over a list: one after the other, and part by part.
use Rattle.nmgc_alloc.proofs.{Vocabulary.ℕ, Vocabulary.◌≡◌, Vocabulary.◌+◌, Vocabulary.◌<◌, Vocabulary.◌≤◌, Vocabulary.◌∙◌, Vocabulary.subst, Vocabulary.arith, Vocabulary.List, Vocabulary.◌++◌, Vocabulary.length, Vocabulary.set, Vocabulary.take, Vocabulary.drop, Vocabulary.take-append-drop, Vocabulary.sum_by-append, Vocabulary.count_by-le-length, Vocabulary.most_segments, Vocabulary.Segment, Vocabulary.Filed, Vocabulary.Category, Vocabulary.IsOutcome, Vocabulary.gained, Vocabulary.AreFew, Vocabulary.Files, Vocabulary.nth, Vocabulary.is_in_category, Vocabulary.sought_count, Vocabulary.filled_count, Vocabulary.one_if, Vocabulary.one_filled, Vocabulary.filled-set, Vocabulary.few_filled, TallyLaws.count-set}

-- no segment was swept
pub files_none : (filed : Filed) (xs : List Segment) → ((w : Category) → IsOutcome w → gained filed w ≡ 0) → filed.filled ≡ 0 →
    Files (gained filed) filed.filled xs xs
files_none filed xs none not_filled = record {
  each = λ w outcome. let e = none w outcome in omega (arith, e);
  filled = omega (arith, not_filled);
}

-- one more segment was swept
pub files_next : (i : ℕ) (old new : Filed) (was now : List Segment) (y : Segment) → i < length now → Files (gained old) old.filled was now →
    ((w : Category) → IsOutcome w → gained new w + one_if (is_in_category w (nth now i)) ≡ gained old w + one_if (is_in_category w y)) →
    new.filled + one_filled (nth now i).state ≡ old.filled + one_filled y.state → Files (gained new) new.filled was (set now i y)
files_next i old new was now y inside h counts filled = record {
  each = λ w outcome.
      let all = count-set w now i y inside in
      let so_far = h.each w outcome in
      let one = counts w outcome in
      omega (arith, all, so_far, one);
  filled = let all = filled-set now i y inside in let so_far = h.filled in omega (arith, all, so_far, filled);
}

-- the counts are at most the number of segments
pub files_few : (filed : Filed) (was now : List Segment) → length now ≤ most_segments → Files (gained filed) filed.filled was now → AreFew filed
files_few filed was now size h = record {
  filled = let most = few_filled now in let so_far = h.filled in omega (arith, most, so_far, size);
  each = λ w outcome.
      let most : sought_count w now ≤ length now = count_by-le-length (is_in_category w) now in
      let so_far = h.each w outcome in
      omega (arith, most, so_far, size);
}

-- the count of two parts is the sum of their counts
pub count_parts : (w : Category) (xs ys : List Segment) → sought_count w (xs ++ ys) ≡ sought_count w xs + sought_count w ys
count_parts w xs ys = sum_by-append (λ (t : Segment). one_if (is_in_category w t)) xs ys

filled_parts : (xs ys : List Segment) → filled_count (xs ++ ys) ≡ filled_count xs + filled_count ys
filled_parts xs ys = sum_by-append (λ (t : Segment). one_filled t.state) xs ys

-- two parts, each swept
pub files_both : (f g : Category → ℕ) (m n : ℕ) (a b c d : List Segment) → Files f m a c → Files g n b d →
    Files (λ w. f w + g w) (m + n) (a ++ b) (c ++ d)
files_both f g m n a b c d x y = record {
  each = λ w outcome.
      let old = count_parts w a b in
      let new = count_parts w c d in
      let low = x.each w outcome in
      let high = y.each w outcome in
      omega (arith, old, new, low, high);
  filled =
      let old = filled_parts a b in
      let new = filled_parts c d in
      let low = x.filled in
      let high = y.filled in
      omega (arith, old, new, low, high);
}

-- one part was swept, and the other is unchanged
files_before : (f : Category → ℕ) (m : ℕ) (a b c : List Segment) → Files f m a c → Files f m (a ++ b) (c ++ b)
files_before f m a b c x = record {
  each = λ w outcome. let old = count_parts w a b in let new = count_parts w c b in let low = x.each w outcome in omega (arith, old, new, low);
  filled = let old = filled_parts a b in let new = filled_parts c b in let low = x.filled in omega (arith, old, new, low);
}

files_after : (f : Category → ℕ) (m : ℕ) (a b d : List Segment) → Files f m b d → Files f m (a ++ b) (a ++ d)
files_after f m a b d y = record {
  each = λ w outcome. let old = count_parts w a b in let new = count_parts w a d in let high = y.each w outcome in omega (arith, old, new, high);
  filled = let old = filled_parts a b in let new = filled_parts a d in let high = y.filled in omega (arith, old, new, high);
}

-- the parts as the code cuts them: two in front of the rest
pub files_cut : (f g : Category → ℕ) (m n middle end : ℕ) (was front back low high low_new high_new : List Segment) → front ≡ take end was →
    back ≡ drop end was → low ≡ take middle front → high ≡ drop middle front → Files f m low low_new → Files g n high high_new →
    Files (λ w. f w + g w) (m + n) was ((low_new ++ high_new) ++ back)
files_cut f g m n middle end was front back low high low_new high_new fr ba l h x y =
    let both : Files (λ w. f w + g w) (m + n) (low ++ high) (low_new ++ high_new) = files_both f g m n low high low_new high_new x y in
    let all : Files (λ w. f w + g w) (m + n) ((low ++ high) ++ back) ((low_new ++ high_new) ++ back) =
    files_before (λ w. f w + g w) (m + n) (low ++ high) back (low_new ++ high_new) both in
    let near : low ++ high ≡ take end was = (λ i. l i ++ h i) ∙ take-append-drop middle front ∙ fr in
    let whole : (low ++ high) ++ back ≡ was = (λ i. near i ++ ba i) ∙ take-append-drop end was in
    subst (λ (xs : List Segment). Files (λ w. f w + g w) (m + n) xs ((low_new ++ high_new) ++ back)) whole all

-- one part after the rest
pub files_behind : (f : Category → ℕ) (m n : ℕ) (was front back new : List Segment) → front ≡ take n was → back ≡ drop n was → Files f m back new →
    Files f m was (front ++ new)
files_behind f m n was front back new fr ba x =
    let whole : front ++ back ≡ was = (λ i. fr i ++ ba i) ∙ take-append-drop n was in
    subst (λ (xs : List Segment). Files f m xs (front ++ new)) whole (files_after f m front back new x)
