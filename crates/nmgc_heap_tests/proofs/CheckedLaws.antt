-- A heap that was checked word by word meets the conditions of promotion.
use Rattle.std.proofs.{Common.◌≡◌, Common.◌≢◌, Common.◌<◌, Common.◌≤◌, Common.◌+◌, Common.◌-◌, Common.◌*◌, Common.◌⊎◌, Common.ℕ, Common.List, Common.length, Common.inl, Common.inr, Common.refl, Common.sym, Common.ap, Common.subst, Common.◌∙◌, Common.arith, Common.Bool, Common.true, Common.false, Common.eqb, Math.Nat.mul-le-mul_right, Math.ListN.get_or-eq_default, lemmas.Bool.cases_eq, lemmas.Bool.cases_lt, lemmas.Bool.cases_order}
use Rattle.std.specs.Prelude.{slice_index}
use Rattle.nmgc_world_spec.specs.{declared.node.Kind.Kind, declared.node.Kind.TheVariants.Con, declared.node.Kind.TheVariants.Var, declared.node.Kind.TheVariants.Arr, declared.node.Kind.TheVariants.Thunk, declared.node.Kind.TheVariants.Weak, declared.node.Kind.TheVariants.Stack}
use Rattle.nmgc_object.specs.{Words.header_word, Words.HasFields, Words.nursery_place, declared.layout.Layout.Layout, declared.layout.Nursery.Nursery, declared.words.Header.Header, declared.layout.TheConstants.SHARED_PLACE, declared.layout.TheConstants.FIRST_PLACE, declared.size.TheConstants.HEADER_WORDS}
use Rattle.nmgc_alloc.specs.{AllocState.Segments, Segments.IsSegments, Reserve.KeepsReserve, laws.Placing.step}
use Rattle.nmgc_heap_spec.specs.laws.Headers.{same_header}
use Rattle.nmgc_stop_spec.specs.{Nurseries.AreEmpty, Nurseries.nursery_at, Strong.HasStrong, Strong.strong_part, Strong.HasHeader}
use Rattle.nmgc_minor.specs.{declared.young.Young.Young, Inputs.Inputs, Found.IsStart, Found.IsFound, Young.IsWithin, Placing.AreNurseries, Placing.CanPlaceEach, Placing.IsMarked, Promotes.CanPromoteWith}
use Rattle.nmgc_heap_tests.specs.Checked.{PointsWell, IsMade, AreMade, IsChecked}

-- strong fields are fields
strong_within : (kind : Kind) (fields : ℕ) (b : Bool) → HasFields kind fields → (strong_part kind fields b).1 ≤ fields
strong_within Con fields b h = omega arith
strong_within Var fields b h = omega arith
strong_within Arr fields b h = omega arith
strong_within Thunk fields true h = omega arith
strong_within Thunk fields false h = h.0
strong_within Weak fields b h = omega arith
strong_within Stack fields b h = omega arith

module _ (layout : Layout) (base : ℕ) (words sizes : List ℕ) (nurseries : List Nursery) (inputs : Inputs)
    (h : IsChecked layout base words sizes nurseries inputs) where
  -- an entry that isn't 0 is one of the sizes
  inside : (k : ℕ) → slice_index sizes k ≢ 0 → k < length sizes
  inside k ne = elim (cases_lt k (length sizes)) [ inl lt ↦ lt | inr past ↦ absurd (ne (get_or-eq_default sizes 0 past)) ]

  made : (k : ℕ) → slice_index sizes k ≢ 0 → IsMade layout base words sizes nurseries k
  made k ne = h.objects.each k (inside k ne) ne

  start_points : (word : ℕ) → FIRST_PLACE ≤ base → IsStart inputs words word → PointsWell base sizes word
  start_points word low (IsStart.register c) = h.registers word c
  start_points word low (IsStart.queued queue c d) = h.queues queue word c d
  start_points word low (IsStart.shared i lt e) = let n = h.long in
      subst (λ (x : ℕ). PointsWell base sizes x) e (h.words_point (SHARED_PLACE + HEADER_WORDS + i) (omega (arith, lt, low, n)))
  start_points word low (IsStart.recorded at c e) = let n = h.long in let l = h.recorded at c in
      subst (λ (x : ℕ). PointsWell base sizes x) e (h.words_point at (omega (arith, l, n)))
  start_points word low (IsStart.weak at c alive e) = subst (λ (x : ℕ). PointsWell base sizes x) e (h.weaks at c).0
  start_points word low (IsStart.part at i c alive lt e) = let n = (h.weaks at c).1 in
      subst (λ (x : ℕ). PointsWell base sizes x) e (h.words_point (at + HEADER_WORDS + i) (omega (arith, n, lt)))

  -- the nursery of a word
  one_part : (a b at : ℕ) → nursery_place layout a ≤ at → at < nursery_place layout a + layout.nursery → nursery_place layout b ≤ at →
      at < nursery_place layout b + layout.nursery → a ≡ b
  one_part a b at al ah bl bh = elim (cases_order a b) [
    | inl e ↦ e
    | inr (inl lt) ↦ let s = step a b layout.nursery lt in absurd (omega (arith, s, ah, bl))
    | inr (inr gt) ↦ let s = step b a layout.nursery gt in absurd (omega (arith, s, bh, al))
  ]

  ends : (maker : ℕ) → maker < layout.mutators → nursery_place layout maker + layout.nursery ≤ base + layout.mutators * layout.nursery
  ends maker lt =
      let up : (maker + 1) * layout.nursery ≤ layout.mutators * layout.nursery =
      mul-le-mul_right layout.nursery (let e : maker + 1 ≤ layout.mutators = omega arith in e) in
      let flat : (maker + 1) * layout.nursery ≡ maker * layout.nursery + layout.nursery = omega arith in
      let b = h.begins in
      omega (arith, up, flat, b)

  -- an object lies in its maker's nursery
  own : (k : ℕ) (m : IsMade layout base words sizes nurseries k) → (nursery_place layout m.name.maker ≤ base + k) ×
      (base + k + slice_index sizes k ≤ nursery_place layout m.name.maker + layout.nursery)
  own k m =
      let p = h.parts.places m.name.maker m.maker in
      let t = h.parts.tops m.name.maker m.maker in
      let above = m.above in
      let below = m.below in
      (omega (arith, p, above), omega (arith, p, t.1, below))

  header_at : (k : ℕ) → slice_index sizes k ≢ 0 → HasHeader words (base + k)
  header_at k ne =
      let m = made k ne in
      let o = own k m in
      let e = ends m.name.maker m.maker in
      let long = h.long in
      let size = m.size in
      record { header = m.header; valid = m.valid; read = m.read; inside = omega (arith, o.1, e, long, size) }

  strong_points : (k word : ℕ) → slice_index sizes k ≢ 0 → HasStrong words (base + k) word → PointsWell base sizes word
  strong_points k word ne s =
      let o = header_at k ne in
      let same : s.header ≡ o.header = same_header s.header o.header s.valid o.valid (sym s.read ∙ o.read) in
      let few = strong_within s.header.kind s.header.fields (eqb (slice_index words (base + k + HEADER_WORDS)) 0) s.valid.1 in
      let count : s.header.fields ≡ o.header.fields = ap (λ (x : Header). x.fields) same in
      let before = s.before in
      let in' = o.inside in
      subst (λ (x : ℕ). PointsWell base sizes x) s.is (h.words_point (base + k + HEADER_WORDS + s.index) (omega (arith, few, count, before, in')))

  -- each address that is found has an object
  found_made : (at : ℕ) → FIRST_PLACE ≤ base → IsFound base words (IsStart inputs words) at → (base ≤ at) × (slice_index sizes (at - base) ≢ 0)
  found_made at low (IsFound.start _ l s) = (l, start_points (2 * at) low s at refl l)
  found_made at low (IsFound.field from _ f l s) =
      let m = found_made from low f in
      let e : base + (from - base) ≡ from = omega (arith, m.0) in
      (l, strong_points (from - base) (2 * at) m.1 (subst (λ (k : ℕ). HasStrong words k (2 * at)) (sym e) s) at refl l)

  nurseries_are : (table : List ℕ) → length table ≡ layout.mutators * layout.nursery →
      ((at : ℕ) → base ≤ at → IsMarked base table at → slice_index sizes (at - base) ≢ 0) → AreNurseries layout base table nurseries
  nurseries_are table size marked = record {
    begins = h.begins;
    count = h.parts.count;
    size = size;
    places = h.parts.places;
    tops = h.parts.tops;
    unused = λ maker at lt up high. elim (cases_eq (slice_index table (at - base)) 0) [
      | inl z ↦ z
      | inr ne ↦
          let p = h.parts.places maker lt in
          let t = h.parts.tops maker lt in
          let b = h.begins in
          let l : base ≤ at = omega (arith, p, t.0, up, b) in
          let s = marked at l ne in
          let m = made (at - base) s in
          let o = own (at - base) m in
          let positive = m.size in
          let there : base + (at - base) ≡ at = omega (arith, l) in
          let same = one_part m.name.maker maker at (omega (arith, o.0, there)) (omega (arith, o.1, there, positive)) (omega (arith, p, t.0, up)) high in
          let top : (nursery_at nurseries m.name.maker).top ≡ (nursery_at nurseries maker).top = ap (λ (n : ℕ). (nursery_at nurseries n).top) same in
          let below = m.below in
          absurd (omega (arith, below, top, up, there, positive))
    ];
  }

  -- an object in the nursery of a maker, by its address
  record IsAt (maker at : ℕ) (m : IsMade layout base words sizes nurseries (at - base)) : Type 0 where
    there : base + (at - base) ≡ at
    read : slice_index words at ≡ header_word m.header
    known : slice_index words (at + 1) ≡ slice_index words (base + (at - base) + 1)
    same : m.name.maker ≡ maker
    inside : at + HEADER_WORDS + m.header.fields ≤ length words
    below : at + HEADER_WORDS + m.header.fields ≤ (nursery_at nurseries maker).top
    small : HEADER_WORDS + m.header.fields ≤ layout.words

  object_at : (maker at : ℕ) → maker < layout.mutators → (nursery_at nurseries maker).base ≤ at → at < (nursery_at nurseries maker).top →
      (m : IsMade layout base words sizes nurseries (at - base)) → IsAt maker at m
  object_at maker at lt low high m =
      let p = h.parts.places maker lt in
      let t = h.parts.tops maker lt in
      let b = h.begins in
      let o = own (at - base) m in
      let there : base + (at - base) ≡ at = omega (arith, p, low, b) in
      let size = m.size in
      let same = one_part m.name.maker maker at (omega (arith, o.0, there)) (omega (arith, o.1, there, size)) (omega (arith, p, low)) (omega (
        arith,
        p,
        high,
        t.1,
      )) in
      let top : (nursery_at nurseries m.name.maker).top ≡ (nursery_at nurseries maker).top = ap (λ (n : ℕ). (nursery_at nurseries n).top) same in
      let below = m.below in
      let small = m.small in
      let e = ends m.name.maker m.maker in
      let long = h.long in
      record {
        there = there;
        read = subst (λ (k : ℕ). slice_index words k ≡ header_word m.header) there m.read;
        known = ap (λ (k : ℕ). slice_index words (k + 1)) (sym there);
        same = same;
        inside = omega (arith, o.1, e, long, size, there);
        below = omega (arith, below, top, size, there);
        small = omega (arith, small, size);
      }

  all_can : (table : List ℕ) → ((at : ℕ) → base ≤ at → IsMarked base table at → slice_index sizes (at - base) ≢ 0) →
      CanPlaceEach layout words table base nurseries
  all_can table marked maker lt =
      let p = h.parts.places maker lt in
      let b = h.begins in
      record {
        each = λ at low high mark.
            let l : base ≤ at = omega (arith, p, low, b) in
            let m = made (at - base) (marked at l mark) in
            let o = object_at maker at lt low high m in
            record {
              object = record { header = m.header; valid = m.valid; read = o.read; inside = o.inside };
              small = o.small;
              name = m.name;
              valid = m.named;
              made = o.same;
              named = o.known ∙ m.known;
            };
        within = λ at header low high mark is.
            let l : base ≤ at = omega (arith, p, low, b) in
            let m = made (at - base) (marked at l mark) in
            let o = object_at maker at lt low high m in
            let count : header.fields ≡ m.header.fields = ap (λ (x : Header). x.fields) (same_header header m.header is.0 m.valid (sym is.1 ∙ o.read)) in
            let below = o.below in
            omega (arith, below, count);
        apart = λ at next header low lt' high mark mark' is.
            let l : base ≤ at = omega (arith, p, low, b) in
            let l' : base ≤ next = omega (arith, l, lt') in
            let s = marked at l mark in
            let s' = marked next l' mark' in
            let m = made (at - base) s in
            let o = object_at maker at lt low (omega (arith, lt', high)) m in
            let count : header.fields ≡ m.header.fields = ap (λ (x : Header). x.fields) (same_header header m.header is.0 m.valid (sym is.1 ∙ o.read)) in
            let a = h.objects.apart (at - base) (next - base) (omega (arith, l, lt')) (inside (next - base) s') s s' in
            let size = m.size in
            omega (arith, a, size, count, l, l');
      }

  -- a word that points well points into the table
  within_table : (y : Young) → y.base ≡ base → length y.table.items ≡ layout.mutators * layout.nursery → (word : ℕ) → PointsWell base sizes word →
      IsWithin y word
  within_table y same size word points at e l =
      let low : base ≤ at = omega (arith, same, l) in
      let k = inside (at - base) (points at e low) in
      let total = h.size in
      omega (arith, same, size, k, total, low)

  pub checked_can : (s : Segments) → IsSegments s → s.layout ≡ layout → KeepsReserve s.layout s.segments 0 ⊎ AreEmpty nurseries →
      CanPromoteWith s words nurseries inputs
  checked_can s sound same_layout reserve y young none begins size =
      let b = h.begins in
      let e : y.base ≡ base = begins ∙ ap (λ (l : Layout). nursery_place l 0) same_layout ∙ sym h.begins in
      let count : length y.table.items ≡ layout.mutators * layout.nursery = size ∙ ap (λ (l : Layout). l.mutators * l.nursery) same_layout in
      let low : FIRST_PLACE ≤ base = omega (arith, b) in
      let long = h.long in
      record {
        sound = sound;
        lists = young;
        empty = none;
        above = omega (arith, e, low);
        inside = omega (arith, e, long);
        recorded = λ at c. let l = h.recorded at c in omega (arith, l, e);
        weaks = λ at c. (h.weaks at c).1;
        within = λ word start. within_table y e count word (start_points word low start);
        can = λ at found.
            let m = found_made at low (subst (λ (n : ℕ). IsFound n words (IsStart inputs words) at) e found) in
            let there : base + (at - base) ≡ at = omega (arith, m.0) in
            record {
              header = subst (λ (k : ℕ). HasHeader words k) there (header_at (at - base) m.1);
              within = λ word strong. within_table y e count word (strong_points (at - base) word m.1 (subst (λ (k : ℕ).
                  HasStrong words k word) (sym there) strong));
            };
        parts = λ table length_is marked.
            let found : (at : ℕ) → base ≤ at → IsMarked base table at →
            slice_index sizes (at - base) ≢ 0 = λ at l k.
            (found_made at low (subst (λ (n : ℕ). IsFound n words (IsStart inputs words) at) e (marked at (omega (
              arith,
              e,
              l,
            )) (subst (λ (n : ℕ). IsMarked n table at) (sym e) k)))).1 in (
              subst (λ (l : Layout). AreNurseries l y.base table nurseries) (sym same_layout) (subst (λ (n : ℕ).
                  AreNurseries layout n table nurseries) (sym e) (nurseries_are table (length_is ∙ count) found)),
              subst (λ (l : Layout). CanPlaceEach l words table y.base nurseries) (sym same_layout) (subst (λ (n : ℕ).
                  CanPlaceEach layout words table n nurseries) (sym e) (all_can table found)),
            );
        reserve = reserve;
      }

-- one more word was walked, and an object begins at it
pub made_more : (layout : Layout) (base : ℕ) (words sizes : List ℕ) (nurseries : List Nursery) (k free : ℕ) →
    AreMade layout base words sizes nurseries k → ((j : ℕ) → j < k → slice_index sizes j ≢ 0 → j + slice_index sizes j ≤ free) → free ≤ k →
    IsMade layout base words sizes nurseries k → AreMade layout base words sizes nurseries (k + 1)
made_more layout base words sizes nurseries k free made next after this = record {
  each = λ j lt ne. elim (cases_lt j k) [
    | inl l ↦ made.each j l ne
    | inr ge ↦ let e : k ≡ j = omega (arith, lt, ge) in subst (λ (n : ℕ). IsMade layout base words sizes nurseries n) e this
  ];
  apart = λ i j lt ltj ne ne'. elim (cases_lt j k) [
    | inl l ↦ made.apart i j lt l ne ne'
    | inr ge ↦ let b = next i (omega (arith, lt, ltj, ge)) ne in omega (arith, b, after, ge)
  ];
}

-- and then the next object begins behind this one
pub next_more : (sizes : List ℕ) (k free : ℕ) → ((j : ℕ) → j < k → slice_index sizes j ≢ 0 → j + slice_index sizes j ≤ free) → free ≤ k → (j : ℕ) →
    j < k + 1 → slice_index sizes j ≢ 0 → j + slice_index sizes j ≤ k + slice_index sizes k
next_more sizes k free next after j lt ne = elim (cases_lt j k) [
  | inl l ↦ let b = next j l ne in omega (arith, b, after)
  | inr ge ↦
      let e : j ≡ k = omega (arith, lt, ge) in
      let f : j + slice_index sizes j ≡ k + slice_index sizes k = ap (λ (n : ℕ). n + slice_index sizes n) e in
      omega (arith, f)
]

-- if no object begins at the word, only the words before it count
before : (sizes : List ℕ) (k j : ℕ) → slice_index sizes k ≡ 0 → j < k + 1 → slice_index sizes j ≢ 0 → j < k
before sizes k j none lt ne = elim (cases_lt j k) [
  | inl l ↦ l
  | inr ge ↦ let e : j ≡ k = omega (arith, lt, ge) in absurd (ne (ap (λ (n : ℕ). slice_index sizes n) e ∙ none))
]

-- one more word was walked, and no object begins at it
pub made_skip : (layout : Layout) (base : ℕ) (words sizes : List ℕ) (nurseries : List Nursery) (k : ℕ) → slice_index sizes k ≡ 0 →
    AreMade layout base words sizes nurseries k → AreMade layout base words sizes nurseries (k + 1)
made_skip layout base words sizes nurseries k none made = record {
  each = λ j lt ne. made.each j (before sizes k j none lt ne) ne;
  apart = λ i j lt ltj ne ne'. made.apart i j lt (before sizes k j none ltj ne') ne ne';
}

pub next_skip : (sizes : List ℕ) (k free : ℕ) → slice_index sizes k ≡ 0 →
    ((j : ℕ) → j < k → slice_index sizes j ≢ 0 → j + slice_index sizes j ≤ free) → (j : ℕ) → j < k + 1 → slice_index sizes j ≢ 0 →
    j + slice_index sizes j ≤ free
next_skip sizes k free none next j lt ne = next j (before sizes k j none lt ne) ne
