-- The rest of each nursery: no object is there, and a seat's facts about words stay when another word changes.
use Rattle.nmgc_round.proofs.Vocabulary.{◌≡◌, ◌≢◌, ◌⊎◌, inl, inr, ℕ, suc, ◌+◌, ◌-◌, ◌*◌, ◌<◌, ◌≤◌, List, [], ◌∷◌, ◌++◌, length, set, refl, ◌∙◌, arith, slice_index, get_or-set_same, get_or-set_other, mul-le-mul_right, Contains, cases_eq, cases_lt, Contains-append_left, Contains-push, Contains-push_cases, InSegment, InNursery, segment_place, HEADER_WORDS, World, header_of, size_of, MayChange, Place, LiesWell, IsBetween, contains_cases, Opening, Part, UnbornWord, storing, bearing_object, Object, place_of, end_of, IsObject, IsPlace, RepresentsInRound, IsFree, IsOpening, IsNew, IsFixed, Rests, base_of, limit_of, top_of}
use Rattle.nmgc_round.proofs.Standing.{one_or_apart, one_header}

module _ (o : Opening) where
  segment_before : (s : ℕ) → s < o.layout.segments → (m : ℕ) → segment_place o.layout s + o.layout.words ≤ base_of o m
  segment_before s lt m = let h : suc s * o.layout.words ≤ o.layout.segments * o.layout.words = mul-le-mul_right o.layout.words lt in omega arith

  -- two nurseries have no word in common
  pub nurseries_apart : (m k : ℕ) → m ≢ k → (limit_of o m ≤ base_of o k) ⊎ (limit_of o k ≤ base_of o m)
  nurseries_apart m k ne = elim (cases_lt m k) [
    | inl lt ↦ let h : suc m * o.layout.nursery ≤ k * o.layout.nursery = mul-le-mul_right o.layout.nursery lt in inl (omega arith)
    | inr le ↦ let lt : suc k ≤ m = omega arith in let h : suc k * o.layout.nursery ≤ m * o.layout.nursery = mul-le-mul_right o.layout.nursery lt in
        inr (omega arith)
  ]

  module _ (is : IsOpening o) where
    -- objects that were there when the round began lie before the nurseries
    old_before : (p : Place) → Contains o.places p → (size : ℕ) → 0 < size → LiesWell o.layout p size → (m : ℕ) → p.at + size ≤ base_of o m
    old_before p hp size some (inl g) m = let h = g.2 in omega arith
    old_before p hp size some (inr (own, inl s)) m =
        let last : InSegment o.layout s.0 (p.at + (size - 1)) = s.1 (p.at + (size - 1)) (omega arith) (omega arith) in
        let b = last.before in
        let h = segment_before s.0 last.exists m in
        omega arith
    old_before p hp size some (inr (own, inr s)) m =
        let first : InNursery o.layout p.name.maker p.at = s.1 p.at (omega arith) (omega arith) in
        let l = first.from in
        let u = first.before in
        elim (is.in_segments p hp p.name.maker first.exists) [ inl lt ↦ absurd (omega arith) | inr le ↦ absurd (omega arith) ]

    -- the rest of a nursery is in no object
    pub rest_free : (born : List Object) (w : World) (ws : List ℕ) (p : Part) → RepresentsInRound o born w ws →
        ((x : Object) → Contains born x → IsNew o x) → Rests o born ws p → (i : ℕ) → top_of o p ≤ i → i < limit_of o p.number → IsFree o born i
    rest_free born w ws p st new r i lo hi = record { objects = objects; places = places; owned = owned }
      where
        owned : IsBetween i → ⊥
        owned (inl first) = omega (arith, lo, first)
        owned (inr last) = omega (arith, lo, last.1)

        born_apart : (x : Object) → Contains born x → (i < x.at) ⊎ (end_of x ≤ i)
        born_apart x hx =
            let n = new x hx in
            let from = n.from in
            let to = n.to in
            elim (cases_eq x.name.maker p.number) [
              | inl e ↦ let b = r.below x hx e in inr (omega arith)
              | inr ne ↦ elim (nurseries_apart x.name.maker p.number ne) [ inl l ↦ inr (omega arith) | inr l ↦ inl (omega arith) ]
            ]

        objects : (x : Object) → IsObject o born x → (i < x.at) ⊎ (end_of x ≤ i)
        objects x (inl h) = let b = old_before (place_of x) h.there (size_of x.node) (omega arith) (st.apart x (inl h)).lies p.number in inr (omega arith)
        objects x (inr h) = born_apart x h

        places : (q : Place) → IsPlace o born q → (i < q.at) ⊎ (q.at + HEADER_WORDS ≤ i)
        places q (inl h) = let b = old_before q h HEADER_WORDS (omega arith) (st.named q (inl h)).lies p.number in inr (omega arith)
        places q (inr h) = rw (← h.2) (elim (born_apart h.0 h.1) [ inl l ↦ inl l | inr l ↦ inr (omega arith) ])

  -- a part's facts about words stay, if none of these words changes
  pub rests_same : (born more : List Object) (ws us : List ℕ) (q : Part) → ((x : Object) → IsObject o born x → IsObject o more x) →
      ((x : Object) → Contains more x → x.name.maker ≡ q.number → end_of x ≤ top_of o q)
      → ((j : ℕ) → top_of o q ≤ j → j < limit_of o q.number → slice_index us j ≡ slice_index ws j)
      → ((at offset : ℕ) → IsFixed o born at offset → slice_index us (at + offset) ≡ slice_index ws (at + offset))
      → Rests o born ws q → Rests o more us q
  rests_same born more ws us q grow below rest fixed r = record {
    exists = r.exists;
    room = r.room;
    below = below;
    unborn = λ u h. let t = r.unborn u h in (rest u.at t.1 t.2 ∙ t.0, t.1, t.2);
    fixed = λ f h. let t = r.fixed f h in (
      record {
        object = t.0.object;
        here = grow t.0.object t.0.here;
        is_at = t.0.is_at;
        within = t.0.within;
        fixed = t.0.fixed;
      },
      fixed f.at f.offset t.0 ∙ t.1,
    );
  }

  -- a word that never changes isn't a word in no object
  pub fixed_away : (born : List Object) (i at offset : ℕ) → IsFree o born i → IsFixed o born at offset → at + offset ≢ i
  fixed_away born i at offset free f e = let a = f.is_at in let b = f.within in
      elim (free.objects f.object f.here) [ inl l ↦ omega arith | inr l ↦ omega arith ]

  -- nor a field that may change
  pub fixed_field : (born : List Object) (w : World) (ws : List ℕ) → RepresentsInRound o born w ws → (x : Object) → IsObject o born x → (i : ℕ) →
      i < (header_of x.node).fields → MayChange (header_of x.node).kind i → (at offset : ℕ) → IsFixed o born at offset → at + offset ≢ x.at + HEADER_WORDS + i
  fixed_field born w ws st x hx i within may at offset f e =
      let a = f.is_at in
      let b = f.within in
      elim (one_or_apart o born w ws st x f.object hx f.here) [
        | inl same ↦
            let s = same.1 in
            let head : header_of x.node ≡ header_of f.object.node = one_header o born w ws st x f.object hx f.here same.0 in
            f.fixed i (omega arith) (rw head at may)
        | inr far ↦ elim far [ inl l ↦ omega arith | inr l ↦ omega arith ]
      ]

  module _ (is : IsOpening o) (born : List Object) (w : World) (ws : List ℕ) (st : RepresentsInRound o born w ws) (new : (x : Object) →
      Contains born x → IsNew o x) where
    -- a field changes
    pub rests_field : (x : Object) → IsObject o born x → (i n : ℕ) → i < (header_of x.node).fields → MayChange (header_of x.node).kind i →
        (q : Part) → Rests o born ws q → Rests o born (set ws (x.at + HEADER_WORDS + i) n) q
    rests_field x hx i n within may q r =
        let j : ℕ = x.at + HEADER_WORDS + i in
        rests_same born born ws (set ws j n) q (λ y h. h) r.below
        (λ k lo hi. get_or-set_other ws j k n 0 (λ e. elim ((rest_free is born w ws q st new r k lo hi).objects x hx) [
          | inl l ↦ omega arith
          | inr l ↦ omega arith
        ]))
        (λ at offset f. get_or-set_other ws j (at + offset) n 0 (fixed_field born w ws st x hx i within may at offset f))
        r

    -- a word of the rest of another's nursery is stored
    pub rests_store : (p : Part) → Rests o born ws p → (i n : ℕ) → top_of o p ≤ i → i < limit_of o p.number → (q : Part) → q.number ≢ p.number →
        Rests o born ws q → Rests o born (set ws i n) q
    rests_store p rp i n lo hi q ne r =
        rests_same born born ws (set ws i n) q (λ y h. h) r.below
        (λ k lo' hi'. get_or-set_other ws i k n 0 (λ e. elim (nurseries_apart q.number p.number ne) [ inl l ↦ omega arith | inr l ↦ omega arith ]))
        (λ at offset f. get_or-set_other ws i (at + offset) n 0 (fixed_away born i at offset (rest_free is born w ws p st new rp i lo hi) f))
        r

    -- and a word of the own nursery
    pub rests_stored : (p : Part) → Rests o born ws p → (i n : ℕ) → top_of o p ≤ i → i < limit_of o p.number → i < length ws →
        ((u : UnbornWord) → Contains p.unborn u → u.at ≢ i) → Rests o born (set ws i n) (storing p i n)
    rests_stored p r i n lo hi inside fresh = record {
      exists = r.exists;
      room = r.room;
      below = r.below;
      unborn = λ u h. elim (contains_cases (record { at = i; word = n }) p.unborn u h) [
        | inr c ↦ let t = r.unborn u c in (get_or-set_other ws i u.at n 0 (fresh u c) ∙ t.0, t.1, t.2)
        | inl e ↦ rw (← e) (get_or-set_same ws i n 0 inside, lo, hi)
      ];
      fixed = λ f h. let t = r.fixed f h in
          (t.0, get_or-set_other ws i (f.at + f.offset) n 0 (fixed_away born i f.at f.offset (rest_free is born w ws p st new r i lo hi) t.0) ∙ t.1);
    }

    -- an object of another mutator is allocated
    pub rests_birth : (p : Part) → Rests o born ws p → (x : Object) → x.name.maker ≡ p.number → x.at ≡ top_of o p → end_of x ≤ limit_of o p.number →
        (n : ℕ) (q : Part) → q.number ≢ p.number → Rests o born ws q → Rests o (born ++ x ∷ []) (set ws x.at n) q
    rests_birth p rp x mine top to n q ne r =
        rests_same born (born ++ x ∷ []) ws (set ws x.at n) q (λ y h. elim h [ inl a ↦ inl a | inr c ↦ inr (Contains-append_left born (x ∷ []) y c) ])
        (λ y h e. elim (Contains-push_cases born x y h) [
          | inl c ↦ r.below y c e
          | inr s ↦
              absurd (ne (cc (e, s, mine)))
        ])
        (λ k lo hi. get_or-set_other ws x.at k n 0 (λ e. elim (nurseries_apart q.number p.number ne) [ inl l ↦ omega arith | inr l ↦ omega arith ]))
        (λ at offset f. get_or-set_other ws x.at (at + offset) n 0
        (fixed_away born x.at at offset (rest_free is born w ws p st new rp x.at (omega arith) (omega arith)) f))
        r

    -- and an own object: its words are used, and its header and name are known
    pub rests_born : (p : Part) → Rests o born ws p → (x : Object) → x.name.maker ≡ p.number → x.at ≡ top_of o p → end_of x ≤ limit_of o p.number →
        (n : ℕ) → x.at < length ws
        → Rests o (born ++ x ∷ []) (set ws x.at n) (bearing_object p x.at (size_of x.node) n (slice_index ws (x.at + 1)))
    rests_born p r x mine top to n inside =
        let free : IsFree o born x.at = rest_free is born w ws p st new r x.at (omega arith) (omega arith) in
        let known : (offset : ℕ) → offset < HEADER_WORDS → IsFixed o (born ++ x ∷ []) x.at offset = λ offset lt. record {
          object = x;
          here = inr (Contains-push born x);
          is_at = refl;
          within = omega arith;
          fixed = λ i e may. omega arith;
        } in
        record {
          exists = r.exists;
          room = omega arith;
          below = λ y h e. elim (Contains-push_cases born x y h) [
            | inl c ↦ let b = r.below y c e in omega arith
            | inr s ↦ rw (← s) (omega arith)
          ];
          unborn = λ u h. absurd (let lt = h.1 in omega arith);
          fixed = λ f h. elim (contains_cases (record { at = x.at; offset = 0; word = n }) (record {
            at = x.at;
            offset = 1;
            word = slice_index ws (x.at + 1);
          } ∷ p.fixed) f h) [
            | inl e ↦ rw (← e) (
              known 0 (omega arith),
              let z : x.at + 0 ≡ x.at = omega arith in
                  cc (z, get_or-set_same ws x.at n 0 inside),
            )
            | inr c ↦ elim (contains_cases (record { at = x.at; offset = 1; word = slice_index ws (x.at + 1) }) p.fixed f c) [
              | inl e ↦ rw (← e) (
                known 1 (omega arith),
                get_or-set_other ws x.at (x.at + 1) n 0 (λ k. omega arith),
              )
              | inr d ↦ let t = r.fixed f d in (
                record {
                  object = t.0.object;
                  here = elim t.0.here [ inl a ↦ inl a | inr b ↦ inr (Contains-append_left born (x ∷ []) t.0.object b) ];
                  is_at = t.0.is_at;
                  within = t.0.within;
                  fixed = t.0.fixed;
                },
                get_or-set_other ws x.at (f.at + f.offset) n 0 (fixed_away born x.at f.at f.offset free t.0) ∙ t.1,
              )
            ]
          ];
        }
