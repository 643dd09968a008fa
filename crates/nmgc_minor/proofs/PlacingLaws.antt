-- Giving blocks to one object after another.
use Rattle.nmgc_minor.proofs.Vocabulary.{◌≡◌, ◌≢◌, ◌<◌, ◌≤◌, ◌+◌, ◌-◌, ◌*◌, ℕ, List, [], ◌∷◌, ◌++◌, length, set, map, inl, inr, refl, sym, ap, subst, ◌∙◌, arith, Contains, length-set, mul-le-mul_right, cases_lt, map-append, get_or-set_same, get_or-set_other, Contains-append_left, Contains-append_right, Contains-append_cases, Contains-push, Contains-push_cases, contains_head, contains_tail, contains_cases, class_counted, large, Layout, Header, HEADER_WORDS, block_size, IsSegmentSize, nursery_place, name_word, IsName, Segment, nth, Segments, block_place, IsSegments, IsClass, HasRoom, AllocState, PlacesName, StandsFor, Writes, KeepsReserve, placed_stands, placing_keeps, reserve_has_room, Moved, Move, IsOccupied, AreRising, StandsAfter, with_names, HasHeaderWord, IsPlacing, PlacesOne, CanPlaceAll, PlacesRange, Reaches, IsMarked, moved_of, occupies, stays_occupied, only_occupied, lies_apart, keeps_marks, is_block, slice_index}
use Rattle.nmgc_minor.specs.Placing.{PlacesEach}

-- a reserve is still a reserve after more was placed
more_placed : (layout : Layout) (xs : List Segment) (a b : ℕ) → a ≤ b → KeepsReserve layout xs a → KeepsReserve layout xs b
more_placed layout xs a b le r = record {
  left = r.left;
  pairs = r.pairs;
  most = r.most;
  begun = r.begun;
  enough = let e = r.enough in omega (arith, e);
}

nothing_in : (m : Moved) → Contains [] m → ⊥
nothing_in m c = omega (arith, c.1)

placing_none : (s : Segments) (words : List ℕ) → IsPlacing s s words []
placing_none s words = record {
  layout = refl;
  stays = λ p size o. o;
  placed = λ m c. absurd (nothing_in m c);
  fresh = λ m size c. absurd (nothing_in m c);
  only = λ p size o. inl o;
  once = λ a b c. absurd (nothing_in a c);
  marks = record { marks = λ k. refl; snap = λ k. refl };
}

only_one : (x m : Moved) → Contains (x ∷ []) m → x ≡ m
only_one x m c = elim (contains_cases x [] m c) [ inl e ↦ e | inr d ↦ absurd (nothing_in m d) ]

placing_one : (s new : Segments) (words : List ℕ) (maker : ℕ) (m : Move) → IsSegments s → IsSegments new → PlacesOne s new words maker m →
    IsPlacing s new words (moved_of m ∷ [])
placing_one s new words maker m sound after p = record {
  layout = p.allocates.layout;
  stays = λ at size o. (stays_occupied s new maker p.class m.to.0 sound after p.allocates at size o).0;
  placed = λ x c.
      let e = only_one (moved_of m) x c in
      subst (λ (y : Moved). (size : ℕ) × IsOccupied new y.to size ×
      ((header : Header) → HasHeaderWord words y.from header → HEADER_WORDS + header.fields ≤ size)) e
      (block_size p.class, occupies s new maker p.class m.to.0 sound after p.allocates, λ header is. (p.class_is header is).holds);
  fresh = λ x size c o.
      let e = only_one (moved_of m) x c in
      let there : IsOccupied s m.to.0 size = subst (λ (y : Moved). IsOccupied s y.to size) (sym e) o in
      let l = large (nth s.segments there.number).class in
      let w = there.words in
      let k = large p.class in
      elim (lies_apart s new maker p.class m.to.0 sound after p.allocates m.to.0 size there) [
        | inl low ↦ omega (arith, low, l, w)
        | inr high ↦ omega (arith, high, k)
      ];
  only = λ at size o. elim (only_occupied s new maker p.class m.to.0 sound after p.allocates at size o) [
    | inl was ↦ inl was
    | inr here ↦ inr (moved_of m, contains_head (moved_of m) [], sym here)
  ];
  once = λ a b c d e. sym (only_one (moved_of m) a c) ∙ only_one (moved_of m) b d;
  marks = keeps_marks s new maker p.class m.to.0 sound after p.allocates;
}

placing_then : (a b c : Segments) (words : List ℕ) (xs ys : List Moved) → IsPlacing a b words xs → IsPlacing b c words ys → IsPlacing a c words (xs ++ ys)
placing_then a b c words xs ys f g = record {
  layout = g.layout ∙ f.layout;
  stays = λ p size o. g.stays p size (f.stays p size o);
  placed = λ m h. elim (Contains-append_cases xs ys m h) [
    | inl i ↦ let p = f.placed m i in (p.0, g.stays m.to p.0 p.1, p.2)
    | inr i ↦ g.placed m i
  ];
  fresh = λ m size h o. elim (Contains-append_cases xs ys m h) [
    | inl i ↦ f.fresh m size i o
    | inr i ↦ g.fresh m size i (f.stays m.to size o)
  ];
  only = λ p size o. elim (g.only p size o) [
    | inl was ↦ elim (f.only p size was) [
      | inl before ↦ inl before
      | inr m ↦ inr (m.0, Contains-append_left xs ys m.0 m.1, m.2)
    ]
    | inr m ↦ inr (m.0, Contains-append_right xs ys m.0 m.1, m.2)
  ];
  once = λ m n h k e. elim (Contains-append_cases xs ys m h) [
    | inl i ↦ elim (Contains-append_cases xs ys n k) [
      | inl j ↦ f.once m n i j e
      | inr j ↦ let p = f.placed m i in absurd (g.fresh n p.0 j (subst (λ (z : ℕ). IsOccupied b z p.0) e p.1))
    ]
    | inr i ↦ elim (Contains-append_cases xs ys n k) [
      | inl j ↦ let p = f.placed n j in absurd (g.fresh m p.0 i (subst (λ (z : ℕ). IsOccupied b z p.0) (sym e) p.1))
      | inr j ↦ g.once m n i j e
    ]
  ];
  marks = record { marks = λ k. g.marks.marks k ∙ f.marks.marks k; snap = λ k. g.marks.snap k ∙ f.marks.snap k };
}

-- one more move after all moves from lower addresses
rising_push : (xs : List Move) (y : Move) → AreRising xs → ((m : Move) → Contains xs m → m.from.0 < y.from.0) → AreRising (xs ++ y ∷ [])
rising_push [] y o h = tt
rising_push (a ∷ []) y o h = (h a (contains_head a []), tt)
rising_push (a ∷ b ∷ xs) y o h = (o.0, rising_push (b ∷ xs) y o.1 (λ m c. h m (contains_tail a (b ∷ xs) m c)))

rising_then : (xs ys : List Move) → AreRising xs → AreRising ys → ((a b : Move) → Contains xs a → Contains ys b → a.from.0 < b.from.0) → AreRising (xs ++ ys)
rising_then [] ys o p h = p
rising_then (a ∷ []) [] o p h = tt
rising_then (a ∷ []) (y ∷ ys) o p h = (h a y (contains_head a []) (contains_head y ys), p)
rising_then (a ∷ b ∷ xs) ys o p h = (o.0, rising_then (b ∷ xs) ys o.1 p (λ m n c d. h m n (contains_tail a (b ∷ xs) m c) d))

-- the moves from different words are at most the number of words
rising_few : (m : Move) (xs : List Move) (to : ℕ) → AreRising (m ∷ xs) → ((x : Move) → Contains (m ∷ xs) x → x.from.0 < to) → m.from.0 + length (m ∷ xs) ≤ to
rising_few m [] to r h = let low = h m (contains_head m []) in omega (arith, low)
rising_few m (n ∷ xs) to r h = let rest = rising_few n xs to r.1 (λ x c. h x (contains_tail m (n ∷ xs) x c)) in let up = r.0 in omega (arith, rest, up)

pub few_moves : (moves : List Move) (from count : ℕ) → AreRising moves →
    ((m : Move) → Contains moves m → (from ≤ m.from.0) × (m.from.0 < from + count)) → length moves ≤ count
few_moves [] from count r h = omega arith
few_moves (m ∷ moves) from count r h = let all = rising_few m moves (from + count) r (λ x c. (h x c).1) in
    let low = (h m (contains_head m moves)).0 in omega (arith, all, low)

-- the allocation state is unchanged without a placing
stands_none : (s : Segments) (words : List ℕ) → StandsAfter s s words []
stands_none s words names old long h = (old, refl, h)

-- one placing
stands_one : (s new : Segments) (words : List ℕ) (maker : ℕ) (m : Move) → IsSegments s → IsSegments new → PlacesOne s new words maker m →
    StandsAfter s new words (m ∷ [])
stands_one s new words maker m sound after p names old long h =
    let at = m.to.0 + 1 in
    let o = occupies s new maker p.class m.to.0 sound after p.allocates in
    let b = is_block new (nursery_place new.layout 0) m.to.0 (block_size p.class) after refl o in
    let ends : nursery_place new.layout 0 ≡ nursery_place s.layout 0 = ap (λ (l : Layout). nursery_place l 0) p.allocates.layout in
    let below = b.below in
    let four = b.four in
    let inside : m.to.0 + 1 < length names = omega (arith, below, four, ends, long) in
    let writes : Writes names (set names (m.to.0 + 1) (name_word m.name)) m.to.0 p.class m.name = record {
      length = length-set names (m.to.0 + 1) (name_word m.name);
      second = get_or-set_same names (m.to.0 + 1) (name_word m.name) 0 inside;
      others = λ i out. get_or-set_other names (m.to.0 + 1) i (name_word m.name) 0 (λ e.
          elim out [ inl a ↦ omega (arith, a, e) | inr a ↦ omega (arith, a, e, four) ]);
    } in
    let placed = placed_stands s new names (set names (m.to.0 + 1) (name_word m.name)) old maker p.class m.to.0 m.name p.valid sound after h
    p.allocates writes in
    let step = subst (λ (k : ℕ). (step : PlacesName s.layout old placed.0 k p.class m.name) ×
    (m.to.0 ≡ block_place s.layout step.number p.class step.block)) (sym p.made) (placed.1, placed.2) in
    (placed.0, (placed.0, p.class, step.0, p.class_is, step.1, refl), placed.3)

pub names_length : (moves : List Move) (names : List ℕ) → length (with_names names moves) ≡ length names
names_length [] names = refl
names_length (m ∷ moves) names = names_length moves (set names (m.to.0 + 1) (name_word m.name)) ∙ length-set names (m.to.0 + 1) (name_word m.name)

names_then : (xs ys : List Move) (names : List ℕ) → with_names names (xs ++ ys) ≡ with_names (with_names names xs) ys
names_then [] ys names = refl
names_then (m ∷ xs) ys names = names_then xs ys (set names (m.to.0 + 1) (name_word m.name))

each_then : (layout : Layout) (words : List ℕ) (xs ys : List Move) (a b c : AllocState) → PlacesEach layout words a xs b →
    PlacesEach layout words b ys c → PlacesEach layout words a (xs ++ ys) c
each_then layout words [] ys a b c f g = subst (λ (x : AllocState). PlacesEach layout words x ys c) (sym f) g
each_then layout words (m ∷ xs) ys a b c f g = (f.0, f.1, f.2, f.3, f.4, each_then layout words xs ys f.0 b c f.5 g)

-- one after the other
stands_then : (a b c : Segments) (words : List ℕ) (xs ys : List Move) → b.layout ≡ a.layout → StandsAfter a b words xs → StandsAfter b c words ys →
    StandsAfter a c words (xs ++ ys)
stands_then a b c words xs ys same f g names old long h =
    let first = f names old long h in
    let ends : nursery_place b.layout 0 ≡ nursery_place a.layout 0 = ap (λ (l : Layout). nursery_place l 0) same in
    let size = names_length xs names in
    let second = g (with_names names xs) first.0 (omega (arith, ends, size, long)) first.2 in
    let each = subst (λ (l : Layout). PlacesEach l words first.0 ys second.0) same second.1 in (
      second.0,
      each_then a.layout words xs ys old first.0 second.0 first.1 each,
      subst (λ (n : List ℕ). StandsFor c n second.0) (sym (names_then xs ys names)) second.2,
    )

no_move : (m : Move) → Contains [] m → ⊥
no_move m c = omega (arith, c.1)

pub range_none : (base : ℕ) (words : List ℕ) (s : Segments) (t : List ℕ) (from : ℕ) → PlacesRange base words s s t t [] from from
range_none base words s t from = record {
  placing = placing_none s words;
  size = refl;
  outside = λ at l o. refl;
  unmarked = λ at l h. absurd (omega arith);
  entries = λ at l h. absurd (omega arith);
  marked = λ m c. absurd (no_move m c);
  named = λ m c. absurd (no_move m c);
  once = λ a b c. absurd (no_move a c);
  stands = stands_none s words;
  rising = tt;
}

pub range_skip : (base : ℕ) (words : List ℕ) (s s' : Segments) (t t' : List ℕ) (added : List Move) (from at : ℕ) → base ≤ from → from ≤ at →
    slice_index t' (at - base) ≡ 0 → PlacesRange base words s s' t t' added from at → PlacesRange base words s s' t t' added from (at + 1)
range_skip base words s s' t t' added from at low le free r =
    let same = r.outside at (omega arith) (inr (omega arith)) in
    record {
      placing = r.placing;
      size = r.size;
      outside = λ k l o. r.outside k l (elim o [ inl a ↦ inl a | inr a ↦ inr (omega arith) ]);
      unmarked = λ k l h u. elim (cases_lt k at) [
        | inl lt ↦ r.unmarked k l lt u
        | inr ge ↦ let e : k ≡ at = omega arith in subst (λ (n : ℕ). slice_index t' (n - base) ≡ 0) (sym e) free
      ];
      entries = λ k l h u. elim (cases_lt k at) [
        | inl lt ↦ r.entries k l lt u
        | inr ge ↦ let e : k ≡ at = omega arith in absurd (u (subst (λ (n : ℕ). slice_index t (n - base) ≡ 0) (sym e) (sym same ∙ free)))
      ];
      marked = λ m c. let h = r.marked m c in (h.0, omega (arith, h.1), h.2);
      named = r.named;
      once = r.once;
      stands = r.stands;
      rising = r.rising;
    }

-- no object was found up to a later address
pub range_later : (base : ℕ) (words : List ℕ) (s s' : Segments) (t t' : List ℕ) (added : List Move) (from at later : ℕ) → base ≤ from →
    at ≤ later → ((k : ℕ) → at ≤ k → k < later → slice_index t' (k - base) ≡ 0) → PlacesRange base words s s' t t' added from at →
    PlacesRange base words s s' t t' added from later
range_later base words s s' t t' added from at later low more free r = record {
  placing = r.placing;
  size = r.size;
  outside = λ k l o. r.outside k l (elim o [ inl a ↦ inl a | inr a ↦ inr (omega (arith, a, more)) ]);
  unmarked = λ k l h u. elim (cases_lt k at) [ inl lt ↦ r.unmarked k l lt u | inr ge ↦ free k ge h ];
  entries = λ k l h u. elim (cases_lt k at) [
    | inl lt ↦ r.entries k l lt u
    | inr ge ↦ let same = r.outside k (omega (arith, low, l)) (inr ge) in absurd (u (sym same ∙ free k ge h))
  ];
  marked = λ m c. let h = r.marked m c in (h.0, omega (arith, h.1, more), h.2);
  named = r.named;
  once = r.once;
  stands = r.stands;
  rising = r.rising;
}

pub range_more : (base : ℕ) (words : List ℕ) (s cur next : Segments) (t t' : List ℕ) (added : List Move) (from at maker : ℕ) (m : Move) →
    base ≤ from → from ≤ at → at - base < length t' → IsSegments cur → IsSegments next → slice_index t' (at - base) ≢ 0 → m.from.0 ≡ at →
    PlacesOne cur next words maker m
    → PlacesRange base words s cur t t' added from at → PlacesRange base words s next t (set t' (at - base) m.to.0) (added ++ m ∷ []) from (at + 1)
range_more base words s cur next t t' added from at maker m low le in' sound after used here p r =
    let same = r.outside at (omega arith) (inr (omega arith)) in
    let mark : IsMarked base t at = λ e. used (same ∙ e) in
    let moved = placing_then s cur next words (map moved_of added) (moved_of m ∷ []) r.placing (placing_one cur next words maker m sound after p) in
    let all : map moved_of (added ++ m ∷ []) ≡ map moved_of added ++ moved_of m ∷ [] = map-append moved_of added (m ∷ []) in
    let other : (k : ℕ) → base ≤ k → k ≢ at → slice_index (set t' (at - base) m.to.0) (k - base) ≡ slice_index t' (k - base) = λ k l ne.
    get_or-set_other t' (at - base) (k - base) m.to.0 0 (λ e. ne (omega (arith, e))) in
    record {
      placing = subst (λ (xs : List Moved). IsPlacing s next words xs) (sym all) moved;
      size = length-set t' (at - base) m.to.0 ∙ r.size;
      outside = λ k l o.
          let ne : k ≢ at = λ e. elim o [ inl a ↦ omega (arith, a, e) | inr a ↦ omega (arith, a, e) ] in
          other k l ne ∙ r.outside k l (elim o [ inl a ↦ inl a | inr a ↦ inr (omega arith) ]);
      unmarked = λ k l h u. elim (cases_lt k at) [
        | inl lt ↦ other k (omega arith) (λ e. omega (arith, e, lt)) ∙ r.unmarked k l lt u
        | inr ge ↦ let e : k ≡ at = omega arith in absurd (u (subst (λ (n : ℕ). IsMarked base t n) (sym e) mark))
      ];
      entries = λ k l h u. elim (cases_lt k at) [
        | inl lt ↦ let x = r.entries k l lt u in (
          x.0,
          Contains-append_left added (m ∷ []) x.0 x.1,
          x.2,
          other k (omega arith) (λ e. omega (arith, e, lt)) ∙ x.3,
        )
        | inr ge ↦
            let e : k ≡ at = omega arith in (
              m,
              Contains-push added m,
              here ∙ sym e,
              cc (e, get_or-set_same t' (at - base) m.to.0 0 in'),
            )
      ];
      marked = λ x c. elim (Contains-push_cases added m x c) [
        | inl d ↦ let h = r.marked x d in (h.0, omega (arith, h.1), h.2)
        | inr e ↦
            let f : x.from.0 ≡ at = sym (ap (λ (y : Move). y.from.0) e) ∙ here in
            (omega (arith, f), omega (arith, f), subst (λ (n : ℕ). IsMarked base t n) (sym f) mark)
      ];
      named = λ x c. elim (Contains-push_cases added m x c) [
        | inl d ↦ r.named x d
        | inr e ↦ subst (λ (y : Move). IsName y.name × (slice_index words (y.from.0 + 1) ≡ name_word y.name)) e (p.valid, p.named)
      ];
      once = λ a b ca cb f. elim (Contains-push_cases added m a ca) [
        | inl da ↦ elim (Contains-push_cases added m b cb) [
          | inl db ↦ r.once a b da db f
          | inr e ↦ let g : b.from.0 ≡ at = sym (ap (λ (y : Move). y.from.0) e) ∙ here in let h = r.marked a da in absurd (omega (arith, f, g, h.1))
        ]
        | inr d ↦ elim (Contains-push_cases added m b cb) [
          | inl db ↦ let g : a.from.0 ≡ at = sym (ap (λ (y : Move). y.from.0) d) ∙ here in let h = r.marked b db in absurd (omega (arith, f, g, h.1))
          | inr e ↦ sym d ∙ e
        ]
      ];
      stands = stands_then s cur next words added (m ∷ []) r.placing.layout r.stands (stands_one cur next words maker m sound after p);
      rising = rising_push added m r.rising (λ x c. let h = r.marked x c in omega (arith, h.1, here));
    }

pub reaches_none : (layout : Layout) (base : ℕ) (words t : List ℕ) (s : Segments) (before from to : ℕ) → from ≤ to →
    KeepsReserve layout s.segments before → Reaches layout base words t s before from from to
reaches_none layout base words t s before from to le r = record {
  reach = from;
  above = omega arith;
  within = le;
  next = λ k l h u. l;
  reserve = more_placed layout s.segments before (before + (from - from)) (omega arith) r;
}

pub reaches_skip : (layout : Layout) (base : ℕ) (words t : List ℕ) (s : Segments) (before from at to : ℕ) →
    Reaches layout base words t s before from at to → Reaches layout base words t s before from (at + 1) to
reaches_skip layout base words t s before from at to r = record {
  reach = r.reach;
  above = r.above;
  within = r.within;
  next = λ k l h u. r.next k (omega arith) h u;
  reserve = r.reserve;
}

pub reaches_later : (layout : Layout) (base : ℕ) (words t : List ℕ) (s : Segments) (before from at later to : ℕ) → at ≤ later →
    Reaches layout base words t s before from at to → Reaches layout base words t s before from later to
reaches_later layout base words t s before from at later to more r = record {
  reach = r.reach;
  above = r.above;
  within = r.within;
  next = λ k l h u. r.next k (omega (arith, more, l)) h u;
  reserve = r.reserve;
}

pub reaches_more : (layout : Layout) (base : ℕ) (words t : List ℕ) (cur next : Segments) (before from at to maker : ℕ) (m : Move) → IsSegments cur →
    cur.layout ≡ layout → maker < layout.mutators → from ≤ at → at < to → CanPlaceAll layout maker words t base from to → IsMarked base t at →
    m.from.0 ≡ at → PlacesOne cur next words maker m
    → Reaches layout base words t cur before from at to → Reaches layout base words t next before from (at + 1) to
reaches_more layout base words t cur next before from at to maker m sound same low le lt can mark here p r =
    let o = can.each at le lt mark in
    let header = o.object.header in
    let is : HasHeaderWord words at header = (o.object.valid, o.object.read) in
    let size : ℕ = HEADER_WORDS + header.fields in
    let there : HasHeaderWord words m.from.0 header = subst (λ (n : ℕ). HasHeaderWord words n header) (sym here) is in
    let fits : size ≤ cur.layout.words = let small = o.small in subst (λ (l : Layout). size ≤ l.words) (sym same) small in
    let words_ok : IsSegmentSize cur.layout.words = sound.layout.words in
    let counted = (class_counted cur.layout p.class words_ok).1 p.fits in
    let mutator : maker < cur.layout.mutators = subst (λ (l : Layout). maker < l.mutators) (sym same) low in
    let kept = placing_keeps cur next maker p.class m.to.0 (before + (r.reach - from)) size sound p.allocates mutator counted (omega arith) fits
    (p.class_is header there) (subst (λ (l : Layout). KeepsReserve l cur.segments (before + (r.reach - from))) (sym same) r.reserve) in
    let kept' = subst (λ (l : Layout). KeepsReserve l next.segments (before + (r.reach - from) + size)) same kept in
    let reached = r.next at (omega arith) lt mark in
    let above = r.above in
    record {
      reach = at + size;
      above = omega arith;
      within = let w = can.within at header le lt mark is in omega (arith, w);
      next = λ k l h u. let a = can.apart at k header le (omega arith) h mark u is in omega (arith, a);
      reserve = more_placed layout next.segments (before + (r.reach - from) + size) (before + (at + size - from)) (omega (arith, reached, above)) kept';
    }

-- the objects placed so far leave room for any class
pub reaches_room : (layout : Layout) (base : ℕ) (words t : List ℕ) (cur : Segments) (maker from at to : ℕ) → IsSegments cur → cur.layout ≡ layout →
    maker < layout.mutators → from ≤ to → to ≤ from + layout.nursery → Reaches layout base words t cur (maker * layout.nursery) from at to →
    (class : ℕ) → IsClass cur.layout class → HasRoom cur maker class
reaches_room layout base words t cur maker from at to sound same low le most r class fits =
    let counted = (class_counted cur.layout class sound.layout.words).1 fits in
    let mutator : maker < cur.layout.mutators = subst (λ (l : Layout). maker < l.mutators) (sym same) low in
    let up : (maker + 1) * layout.nursery ≤ layout.mutators * layout.nursery =
    mul-le-mul_right layout.nursery (let e : maker + 1 ≤ layout.mutators = omega arith in e) in
    let flat : (maker + 1) * layout.nursery ≡ maker * layout.nursery + layout.nursery = omega arith in
    let within = r.within in
    let few : maker * layout.nursery + (r.reach - from) ≤ layout.mutators * layout.nursery = omega (arith, up, flat, within, most) in
    let few' = subst (λ (l : Layout). maker * layout.nursery + (r.reach - from) ≤ l.mutators * l.nursery) (sym same) few in
    reserve_has_room cur maker class (maker * layout.nursery + (r.reach - from)) sound mutator counted few' (rw same r.reserve)

pub reaches_all : (layout : Layout) (base : ℕ) (words t : List ℕ) (cur : Segments) (maker from at to : ℕ) → cur.layout ≡ layout →
    to ≤ from + layout.nursery → Reaches layout base words t cur (maker * layout.nursery) from at to →
    KeepsReserve cur.layout cur.segments ((maker + 1) * layout.nursery)
reaches_all layout base words t cur maker from at to same most r =
    let flat : (maker + 1) * layout.nursery ≡ maker * layout.nursery + layout.nursery = omega arith in
    let within = r.within in
    rw same (more_placed layout cur.segments (maker * layout.nursery + (r.reach - from)) ((maker + 1) * layout.nursery) (omega (arith, flat, within, most)) r.reserve)

-- a part without found objects
pub range_gap : (base : ℕ) (words : List ℕ) (s s' : Segments) (t t' : List ℕ) (added : List Move) (from at to : ℕ) → base ≤ from → from ≤ at →
    at ≤ to → ((k : ℕ) → at ≤ k → k < to → slice_index t (k - base) ≡ 0) → PlacesRange base words s s' t t' added from at →
    PlacesRange base words s s' t t' added from to
range_gap base words s s' t t' added from at to low le up gap r = record {
  placing = r.placing;
  size = r.size;
  outside = λ k l o. r.outside k l (elim o [ inl a ↦ inl a | inr a ↦ inr (omega arith) ]);
  unmarked = λ k l h u. elim (cases_lt k at) [
    | inl lt ↦ r.unmarked k l lt u
    | inr ge ↦ r.outside k (omega arith) (inr ge) ∙ gap k ge h
  ];
  entries = λ k l h u. elim (cases_lt k at) [
    | inl lt ↦ r.entries k l lt u
    | inr ge ↦ absurd (u (gap k ge h))
  ];
  marked = λ m c. let h = r.marked m c in (h.0, omega (arith, h.1), h.2);
  named = r.named;
  once = r.once;
  stands = r.stands;
  rising = r.rising;
}

-- one part after the other
pub range_then : (base : ℕ) (words : List ℕ) (a b c : Segments) (t u v : List ℕ) (xs ys : List Move) (from mid to : ℕ) → base ≤ from → from ≤ mid →
    mid ≤ to → PlacesRange base words a b t u xs from mid → PlacesRange base words b c u v ys mid to → PlacesRange base words a c t v (xs ++ ys) from to
range_then base words a b c t u v xs ys from mid to low le up f g =
    let all : map moved_of (xs ++ ys) ≡ map moved_of xs ++ map moved_of ys = map-append moved_of xs ys in
    let early : (k : ℕ) → base ≤ k → k < mid → slice_index v (k - base) ≡ slice_index u (k - base) = λ k l h. g.outside k l (inl h) in
    let late : (k : ℕ) → mid ≤ k → slice_index u (k - base) ≡ slice_index t (k - base) = λ k l. f.outside k (omega arith) (inr l) in
    record {
      placing = rw all (placing_then a b c words (map moved_of xs) (map moved_of ys) f.placing g.placing);
      size = g.size ∙ f.size;
      outside = λ k l o. elim o [
        | inl h ↦ early k l (omega arith) ∙ f.outside k l (inl h)
        | inr h ↦ g.outside k l (inr h) ∙ late k (omega arith)
      ];
      unmarked = λ k l h n. elim (cases_lt k mid) [
        | inl lt ↦ early k (omega arith) lt ∙ f.unmarked k l lt n
        | inr ge ↦ g.unmarked k ge h (λ m. n (λ e. m (late k ge ∙ e)))
      ];
      entries = λ k l h n. elim (cases_lt k mid) [
        | inl lt ↦ let x = f.entries k l lt n in (x.0, Contains-append_left xs ys x.0 x.1, x.2, early k (omega arith) lt ∙ x.3)
        | inr ge ↦ let x = g.entries k ge h (λ e. n (sym (late k ge) ∙ e)) in (x.0, Contains-append_right xs ys x.0 x.1, x.2, x.3)
      ];
      marked = λ m h. elim (Contains-append_cases xs ys m h) [
        | inl i ↦ let x = f.marked m i in (x.0, omega (arith, x.1), x.2)
        | inr i ↦ let x = g.marked m i in (omega (arith, x.0), x.1, λ e. x.2 (late m.from.0 x.0 ∙ e))
      ];
      named = λ m h. elim (Contains-append_cases xs ys m h) [ inl i ↦ f.named m i | inr i ↦ g.named m i ];
      once = λ m n h k e. elim (Contains-append_cases xs ys m h) [
        | inl i ↦ elim (Contains-append_cases xs ys n k) [
          | inl j ↦ f.once m n i j e
          | inr j ↦ let x = f.marked m i in let y = g.marked n j in absurd (omega (arith, x.1, y.0, e))
        ]
        | inr i ↦ elim (Contains-append_cases xs ys n k) [
          | inl j ↦ let x = g.marked m i in let y = f.marked n j in absurd (omega (arith, y.1, x.0, e))
          | inr j ↦ g.once m n i j e
        ]
      ];
      stands = stands_then a b c words xs ys f.placing.layout f.stands g.stands;
      rising = rising_then xs ys f.rising g.rising (λ m n h k. let x = f.marked m h in let y = g.marked n k in omega (arith, x.1, y.0));
    }

-- a part with unchanged entries can still be placed
pub still_can_place : (layout : Layout) (maker : ℕ) (words t u : List ℕ) (base from to : ℕ) → base ≤ from →
    ((k : ℕ) → from ≤ k → slice_index u (k - base) ≡ slice_index t (k - base)) → CanPlaceAll layout maker words t base from to →
    CanPlaceAll layout maker words u base from to
still_can_place layout maker words t u base from to low same can = record {
  each = λ at l h m. can.each at l h (λ e. m (same at l ∙ e));
  within = λ at header l h m is. can.within at header l h (λ e. m (same at l ∙ e)) is;
  apart = λ at next header l lt h m n is. can.apart at next header l lt h (λ e. m (same at l ∙ e)) (λ e. n (same next (omega arith) ∙ e)) is;
}
