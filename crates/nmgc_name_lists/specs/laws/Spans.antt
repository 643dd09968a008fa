-- Names in spans: a span's names, how spans grow, and sorted spans, which have their names in order if there is no duplicate.
use Rattle.std.specs.Prelude.{◌≡◌, ◌+◌, ◌-◌, ◌<◌, ◌≤◌, ◌∷◌, ◌++◌}
use Rattle.nmgc_name_lists.specs.laws.Vocabulary.{ℕ, zero, suc, ◌∙◌, inl, inr, refl, sym, ap, subst, arith, List, [], length, set, get_or, Some, false, append-nil, append_assoc, sum_by, Contains, slice_get, slice_index_or, IsPermutation, nat_cmp, ordering_then, is_lt, Ordering, Less, Equal, Greater, cases_lt, ranked, flat_map-append, get_or_from_slice_get, slice_get_within, length-flat_map, Contains-append_right, Contains-append_cases, sum_by-cons, sum_by-append, sum_by-IsPermutation, Name, IsBefore, AreDistinct, same_name, contains_head, contains_tail, contains_cases, contains_flat, flat_contains, Span, in_order, named, names_from, names_of, names_in, AreSorted}
use Rattle.nmgc_name_lists.specs.laws.Order.{IsSteady, still_not, steady_in_order, one_if, many, many_in_order, one_steady, once_many, many_once}

-- THE NAMES OF A SPAN

pub span_length : (maker first count : ℕ) → length (names_from maker first count) ≡ count
span_length maker first zero = refl
span_length maker first (suc count) = ap suc (span_length maker (first + 1) count)

pub span_at : (maker first count at : ℕ) → at < count → slice_get (names_from maker first count) at ≡ Some (named maker (first + at))
span_at maker first zero at low = absurd (omega (arith, low))
span_at maker first (suc count) zero low =
    let e : first ≡ first + 0 = omega arith in
    ap (λ (serial : ℕ). Some (named maker serial)) e
span_at maker first (suc count) (suc at) low =
    let e : (first + 1) + at ≡ first + suc at = omega arith in
    span_at maker (first + 1) count at (omega (arith, low)) ∙ ap (λ (serial : ℕ). Some (named maker serial)) e

-- a span with one more name has the next name at its end
span_suc : (maker first count : ℕ) → names_from maker first (suc count) ≡ names_from maker first count ++ named maker (first + count) ∷ []
span_suc maker first zero =
    let e : first ≡ first + 0 = omega arith in
    ap (λ (serial : ℕ). named maker serial ∷ []) e
span_suc maker first (suc count) =
    let e : (first + 1) + count ≡ first + suc count = omega arith in
    ap (λ (names : List Name). named maker first ∷ names) (span_suc maker (first + 1) count ∙ ap (λ (serial : ℕ).
    names_from maker (first + 1) count ++ named maker serial ∷ []) e)

pub span_more : (maker first count : ℕ) (n : Name) → n.maker ≡ maker → n.serial ≡ first + count →
    names_from maker first (count + 1) ≡ names_from maker first count ++ n ∷ []
span_more maker first count n m s =
    let one : count + 1 ≡ suc count = omega arith in
    ap (λ (k : ℕ). names_from maker first k) one ∙ span_suc maker first count ∙ ap (λ (last : Name).
    names_from maker first count ++ last ∷ []) (sym (same_name n (named maker (first + count)) m s))

-- a span's names are the maker's names from the first serial on
pub span_has : (maker first count : ℕ) (n : Name) → Contains (names_from maker first count) n →
    (n.maker ≡ maker) × (first ≤ n.serial) × (n.serial < first + count)
span_has maker first zero n c = absurd (omega (arith, c.1))
span_has maker first (suc count) n c = elim (contains_cases (named maker first) (names_from maker (first + 1) count) n c) [
  | inl e ↦
      let m : maker ≡ n.maker = ap (λ (x : Name). x.maker) e in
      let s : first ≡ n.serial = ap (λ (x : Name). x.serial) e in
      (sym m, omega (arith, s), omega (arith, s))
  | inr r ↦
      let h = span_has maker (first + 1) count n r in
      let low = h.1 in
      let high = h.2 in
      (h.0, omega (arith, low), omega (arith, high))
]

pub has_span : (maker first count : ℕ) (n : Name) → n.maker ≡ maker → first ≤ n.serial → n.serial < first + count →
    Contains (names_from maker first count) n
has_span maker first count n m low high =
    let names : List Name = names_from maker first count in
    let here : slice_get names (n.serial - first) ≡ Some (named maker (first + (n.serial - first))) =
    span_at maker first count (n.serial - first) (omega (arith, low, high)) in
    let serial : first + (n.serial - first) ≡ n.serial = omega (arith, low) in
    let is : named maker (first + (n.serial - first)) ≡ n = same_name (named maker (first + (n.serial - first))) n (sym m) serial in
    let there : slice_get names (n.serial - first) ≡ Some n = here ∙ ap (λ (x : Name). Some x) is in
    (n.serial - first, slice_get_within names (n.serial - first) n there, get_or_from_slice_get names (n.serial - first) n n there)

-- GROWING

-- the last span has one name more
pub last_longer : (spans : List Span) (i : ℕ) (t d : Span) (n : Name) → i + 1 ≡ length spans → names_of t ≡ names_of (get_or spans i d) ++ n ∷ [] →
    names_in (set spans i t) ≡ names_in spans ++ n ∷ []
last_longer [] i t d n e more = absurd (let f : i + 1 ≡ 0 = e in omega (arith, f))
last_longer (s ∷ []) zero t d n e more = append-nil (names_of t) ∙ more ∙ ap (λ (l : List Name). l ++ n ∷ []) (sym (append-nil (names_of s)))
last_longer (s ∷ r ∷ spans) zero t d n e more = absurd (let f : 0 + 1 ≡ suc (suc (length spans)) = e in omega (arith, f))
last_longer (s ∷ spans) (suc i) t d n e more =
    let f : suc i + 1 ≡ suc (length spans) = e in
    ap (λ (l : List Name). names_of s ++ l) (last_longer spans i t d n (omega (arith, f)) more) ∙ sym (append_assoc (names_of s) (names_in spans) (n ∷ []))

-- a span of one name at the end
pub one_more : (spans : List Span) (s : Span) (n : Name) → names_of s ≡ n ∷ [] → names_in (spans ++ s ∷ []) ≡ names_in spans ++ n ∷ []
one_more spans s n e =
    flat_map-append names_of spans (s ∷ []) ∙ ap (λ (l : List Name). names_in spans ++ l) (append-nil (names_of s) ∙ e)

-- THE SAME SPANS IN ANOTHER ORDER

many_in : (n : Name) (spans : List Span) → many n (names_in spans) ≡ sum_by (λ (s : Span). many n (names_of s)) spans
many_in n [] = refl
many_in n (s ∷ spans) =
    sum_by-append (one_if n) (names_of s) (names_in spans) ∙ ap (λ (k : ℕ). many n (names_of s) + k) (many_in n spans) ∙
    sym (sum_by-cons (λ (t : Span). many n (names_of t)) s spans)

-- the same spans in another order have the same number of each name
same_many : (n : Name) (old new : List Span) → IsPermutation old new → many n (names_in new) ≡ many n (names_in old)
same_many n old new p = many_in n new ∙ sum_by-IsPermutation (λ (s : Span). many n (names_of s)) old new p ∙ sym (many_in n old)

pub same_length : (old new : List Span) → IsPermutation old new → length (names_in new) ≡ length (names_in old)
same_length old new p =
    length-flat_map names_of new ∙ sum_by-IsPermutation (λ (s : Span). length (names_of s)) old new p ∙ sym (length-flat_map names_of old)

-- SPANS IN ORDER

-- two lists without a duplicate in both
apart_append : (xs ys : List Name) → AreDistinct (xs ++ ys) → (n : Name) → Contains xs n → Contains ys n → ⊥
apart_append [] ys d n c e = omega (arith, c.1)
apart_append (x ∷ xs) ys d n c e = elim (contains_cases x xs n c) [
  | inl same ↦ d.0 (Contains-append_right xs ys x (subst (λ (m : Name). Contains ys m) (sym same) e))
  | inr r ↦ apart_append xs ys d.1 n r e
]

rest_append : (xs ys : List Name) → AreDistinct (xs ++ ys) → AreDistinct ys
rest_append [] ys d = d
rest_append (x ∷ xs) ys d = rest_append xs ys d.1

steady_append : (xs ys : List Name) → IsSteady xs → IsSteady ys → ((m n : Name) → Contains ys m → Contains xs n → IsBefore m n → ⊥) → IsSteady (xs ++ ys)
steady_append [] ys s t cross = t
steady_append (x ∷ xs) ys s t cross = (
  (λ n c b. elim (Contains-append_cases xs ys n c) [ inl l ↦ s.0 n l b | inr r ↦ cross n x r (contains_head x xs) b ]),
  steady_append xs ys s.1 t (λ m n c d b. cross m n c (contains_tail x xs n d) b),
)

span_steady : (maker first count : ℕ) → IsSteady (names_from maker first count)
span_steady maker first zero = tt
span_steady maker first (suc count) = ((λ n c b. later n c b), span_steady maker (first + 1) count)
  where
    later : (n : Name) → Contains (names_from maker (first + 1) count) n → IsBefore n (named maker first) → ⊥
    later n c (inl less) =
        let h = span_has maker (first + 1) count n c in
        let same = h.0 in
        let lt : n.maker < maker = less in
        omega (arith, lt, same)
    later n c (inr both) =
        let h = span_has maker (first + 1) count n c in
        let low = h.1 in
        let lt : n.serial < first = both.1 in
        omega (arith, lt, low)

-- the first name of a span, even if it has no names
abbrev first_of : Span → Name
first_of span = named span.maker span.first

-- no span begins before an earlier span of the list
abbrev IsRising : List Span → Type 0
IsRising [] = Unit {0}
IsRising (s ∷ spans) = ((t : Span) → Contains spans t → IsBefore (first_of t) (first_of s) → ⊥) × IsRising spans

-- if two names are in order, the second isn't before the first
by_order : (a b : Name) (p q : Ordering) → p ≡ nat_cmp b.maker a.maker → q ≡ nat_cmp b.serial a.serial → is_lt (ordering_then p q) ≡ false → IsBefore b a → ⊥
by_order a b Less q e f h ahead = cc
by_order a b Greater q e f h (inl lt) = let less = ranked b.maker a.maker Greater e in omega (arith, lt, less)
by_order a b Greater q e f h (inr p) = let less = ranked b.maker a.maker Greater e in let same = p.0 in omega (arith, same, less)
by_order a b Equal Less e f h ahead = cc
by_order a b Equal Equal e f h (inl lt) = let same = ranked b.maker a.maker Equal e in omega (arith, lt, same)
by_order a b Equal Equal e f h (inr p) = let same = ranked b.serial a.serial Equal f in let lt = p.1 in omega (arith, lt, same)
by_order a b Equal Greater e f h (inl lt) = let same = ranked b.maker a.maker Equal e in omega (arith, lt, same)
by_order a b Equal Greater e f h (inr p) = let less = ranked b.serial a.serial Greater f in let lt = p.1 in omega (arith, lt, less)

rising_cons : (s : Span) (spans : List Span) → ((t : Span) (rest : List Span) → spans ≡ t ∷ rest → IsBefore (first_of t) (first_of s) → ⊥) →
    IsRising spans → IsRising (s ∷ spans)
rising_cons s [] next r = ((λ t c. absurd (omega (arith, c.1))), tt)
rising_cons s (u ∷ spans) next r = (
  (λ t c b. elim (contains_cases u spans t c) [
    | inl e ↦ next u spans refl (let P : Span → Type 0 = λ v. IsBefore (first_of v) (first_of s) in subst P (sym e) b)
    | inr later ↦ still_not (first_of t) (first_of s) (first_of u) (r.0 t later) (next u spans refl) b
  ]),
  r,
)

sorted_rising : (spans : List Span) → AreSorted spans → IsRising spans
sorted_rising [] s = tt
sorted_rising (x ∷ []) s = ((λ t c. absurd (omega (arith, c.1))), tt)
sorted_rising (x ∷ y ∷ ys) s = rising_cons x (y ∷ ys)
    (λ z zs e b. by_order (first_of x) (first_of y) (nat_cmp y.maker x.maker) (nat_cmp y.first x.first) refl refl (s 0 x (omega arith) (omega arith))
    (let P : Span → Type 0 = λ v. IsBefore (first_of v) (first_of x) in subst P (sym (heads y z ys zs e)) b))
    (sorted_rising (y ∷ ys) (λ k o low high.
    let e : suc k + 1 ≡ suc (k + 1) = omega arith in
    let here = s (suc k) o (omega arith) (omega (arith, high)) in
    let P : ℕ → Type 0 = λ m. is_lt (ordering_then (nat_cmp (slice_index_or (x ∷ y ∷ ys) m o).maker (slice_index_or (y ∷
    ys) k o).maker) (nat_cmp (slice_index_or (x ∷ y ∷ ys) m o).first (slice_index_or (y ∷ ys) k o).first)) ≡ false in
    subst P e here))
  where
    heads : (a b : Span) (xs ys : List Span) → a ∷ xs ≡ b ∷ ys → a ≡ b
    heads a b xs ys e = cc

-- if two spans share no name and the second doesn't begin first, no name of the second is before a name of the first
spans_apart : (s t : Span) (m n : Name) → (IsBefore (first_of t) (first_of s) → ⊥) → ((x : Name) → Contains (names_of s) x → Contains (names_of t) x → ⊥) →
    Contains (names_of t) m → Contains (names_of s) n → IsBefore m n → ⊥
spans_apart s t m n rises apart c d (inl less) =
    let in_t = span_has t.maker t.first t.count m c in
    let in_s = span_has s.maker s.first s.count n d in
    let m_maker = in_t.0 in
    let n_maker = in_s.0 in
    let lt : t.maker < s.maker = omega (arith, m_maker, n_maker, less) in
    rises (inl lt)
spans_apart s t m n rises apart c d (inr both) =
    let in_t = span_has t.maker t.first t.count m c in
    let in_s = span_has s.maker s.first s.count n d in
    let makers = both.0 in
    let serials = both.1 in
    let m_maker = in_t.0 in
    let n_maker = in_s.0 in
    let low = in_t.1 in
    let high = in_s.2 in
    elim (cases_lt t.first s.first) [
      | inl lt ↦ let same : t.maker ≡ s.maker = omega (arith, makers, m_maker, n_maker) in rises (inr (same, lt))
      | inr ge ↦
          let same : m.maker ≡ s.maker = omega (arith, makers, n_maker) in
          apart m (has_span s.maker s.first s.count m same (omega (arith, ge, low)) (omega (arith, serials, high))) c
    ]

rising_steady : (spans : List Span) → IsRising spans → AreDistinct (names_in spans) → IsSteady (names_in spans)
rising_steady [] r d = tt
rising_steady (s ∷ spans) r d =
    steady_append (names_of s) (names_in spans) (span_steady s.maker s.first s.count)
    (rising_steady spans r.1 (rest_append (names_of s) (names_in spans) d))
    (λ m n c e b.
    let in_t = flat_contains names_of spans m c in
    spans_apart s in_t.0 m n (r.0 in_t.0 in_t.1)
    (λ x p q. apart_append (names_of s) (names_in spans) d x p (contains_flat names_of spans in_t.0 x in_t.1 q)) in_t.2 e b)

-- sorted spans have their names in order, if there is no duplicate
pub spans_in_order : (old new : List Span) → IsPermutation old new → AreSorted new → AreDistinct (names_in old) →
    names_in new ≡ in_order (names_in old)
spans_in_order old new p sorted once =
    let distinct : AreDistinct (names_in new) = many_once (names_in new) (λ n.
    let same = same_many n old new p in
    let most = once_many n (names_in old) once in
    omega (arith, same, most)) in
    one_steady (names_in new) (in_order (names_in old)) (rising_steady new (sorted_rising new sorted) distinct) (steady_in_order (names_in old))
    (λ n. same_many n old new p ∙ sym (many_in_order n (names_in old)))
